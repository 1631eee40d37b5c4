use Rattle.json_value.proofs.HandProofs.{MutBor, ◌≡◌, [], ◌∷◌, refl, sym, ap, ◌∙◌, subst, proved, id⊢, emp, fact_i, use0, ftrue, named, fact, tables, ‵, raw, ◌⊛◌, some, later, ◌$◌, ◌∵◌, !, qed, done, drop, use1, use2, split, join, pick, await, suffices, group, frame, rewrite, enter, addr, stop, no_more, and_then, returns, alloc_all, pass_all, free_all, look_at, get, through, sets, lands_as, no, yes, move, keep, peeks, shows, flft, heard, mut_vals, mut_Tells, plain, nothing, calls_at, lasts, Lasts, triple_of, Stays, stay_dropped, Goes-spent_ref, Goes-dropped, ends_at, framed}
use mathlib.Core.Option as maybe
use base.Fml.{GName}
use denote.Slice.{shr_slice_vals, shr_slice_Tells, shr_slice_Lawful}
use denote.Struct.Field.{mut_ref_field}
use denote.Struct.Laws.{mut_ref_laws}
use denote.Param.Laws.{of_field, row_shared}
use denote.Param.Shared.{mut_ref_shared}
use Rattle.std.specs.Prelude.{IsOk, IfOk, IfErr, option_map}
use Rattle.std.specs.contracts.alloc.Global.{the_row as global}
use Rattle.std.specs.contracts.option.Option as option
use Rattle.std.specs.contracts.result.Result as result
use Rattle.std.proofs.alloc.Global.TheLaws.{the_row_laws as global_laws, the_told as global_told}
use Rattle.std.proofs.result.Result.TheLaws.{the_row_laws as result_laws}
use Rattle.std.proofs.option.Option.TheLaws.{the_row_laws as option_laws}
use Rattle.json_value.specs.Denotes.{tree_of}
use Rattle.json_io.specs.Errors.{no_memory}
use Rattle.json_value.specs.Denotes.{pairs_in}
use Rattle.json_value.specs.Rows.{object_row}
use Rattle.json_value.specs.Positions.{IsPlace}
use Rattle.std.specs.Borrow.{LendsSoOk, follows_so}
use Rattle.json_containers.specs.Changed.{ObjectChanged, ObjectStays}
use Rattle.json_value.specs.Touched.{AtMember}
use Rattle.json_containers.specs.Members.{first_member_value}
use Rattle.json_value.specs.Lending.{missing_as_none, lent_name, name_of_ok, IsReferenceLent, UnlessLent}
use Rattle.json_containers.specs.Found.{Finds}
use Rattle.json_value.proofs.LentNames.{place_ok, on_no_place}
use Rattle.json_value.proofs.MissingPlaces.{missing_name}
use Rattle.json_containers.proofs.Found.{missing_found, missing_only, missing_free}
use denote.Such.{such_Tells, such_Lawful}
use denote.Text.{StrRefOf, Utf8}
use denote.Slice.{ShrSlice}
use denote.Plain.{UInt}
use mir.Syntax.{w8}
use Rattle.json_value.proofs.LenderRelations.{so_weaken}
use Rattle.json_value.specs.declared.value.Value.{Value}
use Rattle.json_value.specs.contracts.value.Value.{the_row as value}
use Rattle.json_io.specs.contracts.error.Error.{the_row as refusal}
use Rattle.json_io.proofs.error.Error.TheLaws.{the_row_laws as refusal_laws}
use Rattle.json_value.proofs.value.Value.TheLaws.{the_row_laws as value_laws}
use Rattle.json_containers.specs.contracts.object.ObjectObjectCalls.get_mut as f
use Rattle.json_containers.proofs.object.ObjectObjectCalls.get_mut.Statement.{statement}
use Rattle.json_containers.proofs.object.ObjectObjectCalls.get_mut.Code as code
use Rattle.json_containers.specs.contracts.object.added_value as g
use Rattle.json_containers.proofs.object.added_value.Met as first-met
use Rattle.json_containers.specs.contracts.object.none_if_missing as h
use Rattle.json_containers.proofs.object.none_if_missing.Met as second-met

abbrev stayed : Stays f.ended.signature.params f.ended.kept
stayed = (stay_dropped _ no, (stay_dropped _ yes, (stay_dropped _ yes, tt)))

pub get_mut_spec : {M : Type 1} → statement M
get_mut_spec 𝓤 𝓛 𝓜 𝓡 wired =
    let c = f.clauses 𝓛 𝓜.mem 𝓡.returns in
    proved 𝓛 f.ended stayed c 𝓜 𝓡 (Goes-spent_ref 𝓛 2 (0 ∷ []) tt (plain (λ _. object_row)), (Goes-dropped 𝓛 2 (plain (λ _. global)) yes (λ κs x w. refl), (Goes-dropped 𝓛 2 (StrRefOf (1 ∷ []) tt) yes (λ κs x w. refl), tt)))
    f.Key.name code.function (code.unfolded 𝓤 𝓛.H 𝓜 𝓡 wired)
    (λ κs. (mut_vals, ((λ x. global_told.val x ∷ []), (shr_slice_vals, tt)))) (λ κs. (mut_Tells (named 0) κs.0 object_row, (global_told.tells, (such_Tells (ShrSlice (named 1) κs.1.0 (UInt w8)) (λ x. Utf8 x.now) (λ x cs. (tt, tt)) shr_slice_vals (shr_slice_Tells (named 1) κs.1.0 (UInt w8)), tt)))) (λ κs qs bounds a _ are.
    let v = a.0 in let alloc = a.1.0 in let path = a.1.1.0 in
    let G = triple_of 𝓛 g.signature (g.spec 𝓛 𝓜.mem 𝓡.returns) in
    let z : G.Ghost = ((κs, qs, bounds, a, (mut_vals v, ((global_told.val alloc ∷ []), (shr_slice_vals path, tt)))), tt) in
    let F = mut_ref_field (record { mir = named 0; lft = κs.0 }) value tt in
    let ref-laws = of_field F (mut_ref_laws (record { mir = named 0; lft = κs.0 }) value tt) refl (mut_ref_shared (record { mir = named 0; lft = κs.0 }) value tt (row_shared value value_laws)) in
    let R = result.the_row F.row refusal in let O = result.the_row (option.the_row F.row) refusal in
    qed 𝓛 (raw (G.pre z) ∷ []) ∵
    enter ! _ _ _ _ _ $ alloc_all ! (λ l. pass_all ! refl ((tt, tt), (((global_laws.lawful 𝓛).typed alloc _ are.1.0).0, (((such_Lawful (ShrSlice (named 1) κs.1.0 (UInt w8)) (λ x. Utf8 x.now) (λ x cs. (tt, tt)) 𝓛 (shr_slice_Lawful 𝓛 (named 1) κs.1.0 (UInt w8))).typed path _ are.1.1.0).0, tt))) $
    sets ! (addr ! (through ! refl (stop !))) refl (tt, tt) $
    calls_at ! (framed 𝓤 𝓛.H 𝓜 (tables 𝓤 𝓛.H 𝓜 𝓡 𝓡.env)) G (first-met.met 𝓤 𝓛 𝓜 𝓡 (code.calls-json_containers::object::added_value 𝓡.env wired)) z
    (and_then ! (get ! refl) (and_then ! (get ! refl) (and_then ! (get ! refl) (no_more !)))) (λ u.
    use1 𝓛 (later (some (λ (r : R.Denot). ((‵ (flft κs.0 qs.0) ⊛ ‵ (flft κs.1.0 qs.1.0) ⊛ ‵ ftrue) ⊛ ‵ (R.own_val r (u ∷ []))) ⊛ some (λ (ws : Lasts g.ended κs a). ‵ (lasts g.ended κs a ws) ⊛ (‵ (LendsSoOk object_row value v r (λ n w. ObjectChanged (AtMember path.now (λ before after. after ≡ w)) v.now n) (λ n. ObjectStays v.now n)) ⊛ raw (fact 𝓤 (Finds ((IsPlace v.now → ⊥) → ⊥) (first_member_value path.now (pairs_in v.now)) r))))))) (id⊢ 𝓤 _) $
    await ! tt $ pick ! (λ r. split ! $ split ! $ split ! $ move ! (2 ∷ []) $ peeks ! R _ (shows 𝓛 R) r (u ∷ []) (λ is.
    lands_as ! refl refl ((((result_laws F.row refusal ref-laws refusal_laws).lawful 𝓛).typed r (u ∷ []) is).0) $
    let G2 = triple_of 𝓛 h.signature (h.spec 𝓛 𝓜.mem 𝓡.returns) in
    let z2 : G2.Ghost = (((κs.0, tt), (qs.0, tt), tt, (r, tt), ((u ∷ []), tt)), tt) in
    -- [r; the two tokens; what was lent]
    nothing ! $ move ! (1 ∷ 0 ∷ []) $ join ! $ nothing ! $ move ! (2 ∷ 0 ∷ []) $ join ! $ join ! $ nothing ! $ move ! (1 ∷ 0 ∷ []) $
    use2 𝓛 (raw (G2.pre z2)) (id⊢ 𝓤 _) $
    calls_at ! (framed 𝓤 𝓛.H 𝓜 (tables 𝓤 𝓛.H 𝓜 𝓡 𝓡.env)) G2 (second-met.met 𝓤 𝓛 𝓜 𝓡 (code.calls-json_containers::object::none_if_missing 𝓡.env wired)) z2
    (and_then ! (get ! refl) (no_more !)) (λ o.
    use1 𝓛 (later (some (λ (s : O.Denot). ((‵ (flft κs.0 qs.0) ⊛ ‵ ftrue) ⊛ ‵ (O.own_val s (o ∷ []))) ⊛ some (λ (ws : Lasts h.ended (κs.0, tt) (r, tt)). ‵ (lasts h.ended (κs.0, tt) (r, tt) ws) ⊛ raw (fact 𝓤 (s ≡ missing_as_none r)))))) (id⊢ 𝓤 _) $
    await ! tt $ pick ! (λ s. split ! $ split ! $ split ! $ move ! (2 ∷ []) $ peeks ! O _ (shows 𝓛 O) s (o ∷ []) (λ is2.
    lands_as ! refl refl ((((result_laws (option.the_row F.row) refusal (option_laws F.row ref-laws) refusal_laws).lawful 𝓛).typed s (o ∷ []) is2).0) $
    returns ! (look_at ! 0 refl) $ free_all ! refl $
    -- [the result; the first token; nothing; what none_if_missing says; the second token and nothing; what was lent]
    move ! (3 ∷ []) $ pick ! (λ ws2. split ! $ drop ! $ heard ! _ (λ same.
    move ! (4 ∷ []) $ pick ! (λ ws. split ! $ drop ! $ split ! $ move ! (1 ∷ []) $ heard ! _ (λ seen. keep ! (0 ∷ 1 ∷ 2 ∷ 4 ∷ []) $
    let Named = λ (m : maybe.Option GName). follows_so object_row value v.ghost_name m (λ w n. IsReferenceLent m → ObjectChanged (AtMember path.now (λ before after. after ≡ w)) v.now n) (λ n. UnlessLent m (ObjectStays v.now n)) in
    use1 𝓛 (‵ (Named (name_of_ok r))) (so_weaken 𝓛 object_row value v.ghost_name (name_of_ok r) _ _ _ _ (λ w n p at. p (place_ok r at)) (λ n p. on_no_place r _ p)) $
    rewrite ! 0 (λ (m : maybe.Option GName). ‵ (Named m)) (sym (ap lent_name same ∙ missing_name r)) refl $
    suffices ! _ (ends_at 𝓛 f.ended stayed c z o s (tt, (tt, (tt, tt))) (tt, (tt, (tt, tt)))) $
    -- [what is lent; the result; the first token; the second token and nothing]
    move ! (2 ∷ 3 ∷ []) $ join ! $ nothing ! $ nothing ! $ join ! $ nothing ! $ join ! $ nothing ! $ join ! $ move ! (1 ∷ 0 ∷ 3 ∷ 2 ∷ []) $ group ! 3 $ frame ! $ frame ! $ use0 𝓛 (raw (fact 𝓤 (IfErr s (λ e. e ≡ no_memory)))) (fact_i 𝓤 _ (emp 𝓤) (subst (λ (s : O.Denot). IfErr s (λ e. e ≡ no_memory)) (sym same) (missing_only ((IsPlace v.now → ⊥) → ⊥) r (first_member_value path.now (pairs_in v.now)) seen))) $ use0 𝓛 (raw (fact 𝓤 ((IsPlace v.now → ⊥) → IsOk s))) (fact_i 𝓤 _ (emp 𝓤) (subst (λ (s : O.Denot). (IsPlace v.now → ⊥) → IsOk s) (sym same) (missing_free (IsPlace v.now → ⊥) r (first_member_value path.now (pairs_in v.now)) seen))) $ use0 𝓛 (raw (fact 𝓤 (IfOk s (λ o. option_map (λ (x : MutBor Value). tree_of x.now) o ≡ first_member_value path.now (pairs_in v.now))))) (fact_i 𝓤 _ (emp 𝓤) (subst (λ (s : O.Denot). IfOk s (λ o. option_map (λ (x : MutBor Value). tree_of x.now) o ≡ first_member_value path.now (pairs_in v.now))) (sym same) (missing_found ((IsPlace v.now → ⊥) → ⊥) r (first_member_value path.now (pairs_in v.now)) seen))) $ done !))))))))))))
