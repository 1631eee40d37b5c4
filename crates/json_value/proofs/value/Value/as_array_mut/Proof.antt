use Rattle.json_value.proofs.HandProofs.{◌≡◌, [], ◌∷◌, refl, sym, ap, ◌∙◌, subst, proved, id⊢, emp, fact_i, use0, ftrue, named, fact, tables, ‵, raw, ◌⊛◌, some, later, ◌$◌, ◌∵◌, !, qed, done, drop, use1, use2, split, join, pick, await, suffices, group, frame, rewrite, enter, addr, stop, no_more, and_then, returns, alloc_all, pass_all, free_all, look_at, get, through, sets, lands_as, no, yes, move, keep, peeks, shows, flft, heard, mut_vals, mut_Tells, plain, nothing, calls_at, lasts, Lasts, triple_of, Stays, stay_dropped, Goes-spent_ref, Goes-dropped, ends_at, framed, MutBor, GName}
use mathlib.Core.Option as maybe
use denote.Struct.Field.{mut_ref_field}
use denote.Struct.Laws.{mut_ref_laws}
use denote.Param.Laws.{of_field, row_shared}
use denote.Param.Shared.{mut_ref_shared}
use Rattle.std.specs.Prelude.{IfOk, IfErr, IfSome, option_map}
use Rattle.std.specs.Borrow.{LendsSoOk, follows_so}
use Rattle.std.specs.contracts.alloc.Global.{the_row as global}
use Rattle.std.specs.contracts.option.Option as option
use Rattle.std.specs.contracts.result.Result as result
use Rattle.std.proofs.alloc.Global.TheLaws.{the_row_laws as global_laws, the_told as global_told}
use Rattle.std.proofs.result.Result.TheLaws.{the_row_laws as result_laws}
use Rattle.std.proofs.option.Option.TheLaws.{the_row_laws as option_laws}
use Rattle.json_grammar.specs.Tree.{list, list_trees}
use Rattle.json_io.specs.Errors.{no_memory}
use Rattle.json_io.specs.contracts.error.Error.{the_row as refusal}
use Rattle.json_io.proofs.error.Error.TheLaws.{the_row_laws as refusal_laws}
use Rattle.json_value.specs.Denotes.{tree_of, list_in}
use Rattle.json_value.specs.Seen.{list_of}
use Rattle.json_value.specs.Lending.{Opens, missing_as_none, lent, lent_name, name_of_ok, IsReferenceLent, UnlessLent}
use Rattle.json_value.specs.Rows.{array_row}
use Rattle.json_value.specs.Written.{ArrayOpened}
use Rattle.json_value.specs.declared.value.Value.{Value, Array}
use Rattle.json_value.specs.declared.container.Container.{Container}
use Rattle.json_value.specs.contracts.value.Value.{the_row as value}
use Rattle.json_value.proofs.LenderRelations.{so_weaken}
use Rattle.json_value.proofs.LentNames.{place_ok, on_no_place}
use Rattle.json_value.proofs.MissingPlaces.{missing_name, missing_opens, missing_opened, missing_opens_only}
use Rattle.json_value.proofs.container.Container.TheLaws.{the_row_laws as container_laws}
use Rattle.json_value.proofs.value.Value.TheLaws.{the_row_laws as value_laws}
use Rattle.json_value.specs.contracts.value.Value.as_array_mut as f
use Rattle.json_value.proofs.value.Value.as_array_mut.Statement.{statement}
use Rattle.json_value.proofs.value.Value.as_array_mut.Code as code
use Rattle.json_value.specs.contracts.value.Value.array_open as g
use Rattle.json_value.proofs.value.Value.array_open.Met as first-met
use Rattle.json_value.specs.contracts.value.lending.none_if_no_array as h
use Rattle.json_value.proofs.value.lending.none_if_no_array.Met as second-met

abbrev stayed : Stays f.ended.signature.params f.ended.kept
stayed = (stay_dropped _ no, (stay_dropped _ yes, tt))

pub as_array_mut_spec : {M : Type 1} → statement M
as_array_mut_spec 𝓤 𝓛 𝓜 𝓡 wired =
    let c = f.clauses 𝓛 𝓜.mem 𝓡.returns in
    proved 𝓛 f.ended stayed c 𝓜 𝓡 (Goes-spent_ref 𝓛 1 (0 ∷ []) tt (plain (λ _. value)), (Goes-dropped 𝓛 1 (plain (λ _. global)) yes (λ κs x w. refl), tt))
    f.Key.name code.function (code.unfolded 𝓤 𝓛.H 𝓜 𝓡 wired)
    (λ κs. (mut_vals, ((λ x. global_told.val x ∷ []), tt))) (λ κs. (mut_Tells (named 0) κs.0 value, (global_told.tells, tt))) (λ κs qs bounds a _ are.
    let v = a.0 in let alloc = a.1.0 in
    let G = triple_of 𝓛 g.signature (g.spec 𝓛 𝓜.mem 𝓡.returns) in
    let z : G.Ghost = ((κs, qs, bounds, a, (mut_vals v, ((global_told.val alloc ∷ []), tt))), tt) in
    let F = mut_ref_field (record { mir = named 0; lft = κs.0 }) array_row tt in
    let ref-laws = of_field F (mut_ref_laws (record { mir = named 0; lft = κs.0 }) array_row tt) refl (mut_ref_shared (record { mir = named 0; lft = κs.0 }) array_row tt (row_shared array_row (container_laws value value_laws))) in
    let R = result.the_row F.row refusal in let O = result.the_row (option.the_row F.row) refusal in
    qed 𝓛 (raw (G.pre z) ∷ []) ∵
    enter ! _ _ _ _ _ $ alloc_all ! (λ l. pass_all ! refl ((tt, tt), (((global_laws.lawful 𝓛).typed alloc _ are.1.0).0, tt)) $
    sets ! (addr ! (through ! refl (stop !))) refl (tt, tt) $
    calls_at ! (framed 𝓤 𝓛.H 𝓜 (tables 𝓤 𝓛.H 𝓜 𝓡 𝓡.env)) G (first-met.met 𝓤 𝓛 𝓜 𝓡 (code.calls-json_value::value::Value::array_open 𝓡.env wired)) z
    (and_then ! (get ! refl) (and_then ! (get ! refl) (no_more !))) (λ u.
    let Lent = λ (r : R.Denot). LendsSoOk value array_row v r (λ n w. (tree_of n ≡ list (list_trees (list_in w))) × (n ≡ Array w)) (λ n. n ≡ v.now) in
    use1 𝓛 (later (some (λ (r : R.Denot). ((‵ (flft κs.0 qs.0) ⊛ ‵ ftrue) ⊛ ‵ (R.own_val r (u ∷ []))) ⊛ some (λ (ws : Lasts g.ended κs a). ‵ (lasts g.ended κs a ws) ⊛ (‵ (Lent r) ⊛ raw (fact 𝓤 (Opens list_in (list_of (tree_of v.now)) (ArrayOpened v.now) r))))))) (id⊢ 𝓤 _) $
    await ! tt $ pick ! (λ r. split ! $ split ! $ move ! (1 ∷ []) $ peeks ! R _ (shows 𝓛 R) r (u ∷ []) (λ is.
    lands_as ! refl refl ((((result_laws F.row refusal ref-laws refusal_laws).lawful 𝓛).typed r (u ∷ []) is).0) $
    let G2 = triple_of 𝓛 h.signature (h.spec 𝓛 𝓜.mem 𝓡.returns) in
    let z2 : G2.Ghost = ((κs, qs, tt, (r, tt), ((u ∷ []), tt)), tt) in
    -- [r; the token and nothing; what was lent]
    nothing ! $ move ! (1 ∷ 0 ∷ []) $ join ! $ move ! (1 ∷ 0 ∷ []) $ join ! $ nothing ! $ move ! (1 ∷ 0 ∷ []) $
    use2 𝓛 (raw (G2.pre z2)) (id⊢ 𝓤 _) $
    calls_at ! (framed 𝓤 𝓛.H 𝓜 (tables 𝓤 𝓛.H 𝓜 𝓡 𝓡.env)) G2 (second-met.met 𝓤 𝓛 𝓜 𝓡 (code.calls-json_value::value::lending::none_if_no_array 𝓡.env wired)) z2
    (and_then ! (get ! refl) (no_more !)) (λ o.
    use1 𝓛 (later (some (λ (s : O.Denot). ((‵ (flft κs.0 qs.0) ⊛ ‵ ftrue) ⊛ ‵ (O.own_val s (o ∷ []))) ⊛ some (λ (ws : Lasts h.ended κs (r, tt)). ‵ (lasts h.ended κs (r, tt) ws) ⊛ raw (fact 𝓤 (s ≡ missing_as_none r)))))) (id⊢ 𝓤 _) $
    await ! tt $ pick ! (λ s. split ! $ split ! $ move ! (1 ∷ []) $ peeks ! O _ (shows 𝓛 O) s (o ∷ []) (λ is2.
    lands_as ! refl refl ((((result_laws (option.the_row F.row) refusal (option_laws F.row ref-laws) refusal_laws).lawful 𝓛).typed s (o ∷ []) is2).0) $
    returns ! (look_at ! 0 refl) $ free_all ! refl $
    -- [the result; the token and nothing; what none_if_missing says; what was lent]
    move ! (2 ∷ []) $ pick ! (λ ws2. split ! $ drop ! $ heard ! _ (λ same.
    move ! (2 ∷ []) $ pick ! (λ ws. split ! $ drop ! $ split ! $ move ! (1 ∷ []) $ heard ! _ (λ seen. keep ! (0 ∷ 1 ∷ 2 ∷ []) $
    let Named = λ (m : maybe.Option GName). follows_so value array_row v.ghost_name m (λ w n. IsReferenceLent m → (tree_of n ≡ list (list_trees (list_in w))) × (n ≡ Array w)) (λ n. UnlessLent m (n ≡ v.now)) in
    use1 𝓛 (‵ (Named (name_of_ok r))) (so_weaken 𝓛 value array_row v.ghost_name (name_of_ok r) _ _ _ _ (λ w n p at. p (place_ok r at)) (λ n p. on_no_place r _ p)) $
    rewrite ! 0 (λ (m : maybe.Option GName). ‵ (Named m)) (sym (ap lent_name same ∙ missing_name r)) refl $
    suffices ! _ (ends_at 𝓛 f.ended stayed c z o s (tt, (tt, tt)) (tt, (tt, tt))) $
    nothing ! $ nothing ! $ join ! $ nothing ! $ join ! $ move ! (3 ∷ 0 ∷ 2 ∷ 1 ∷ []) $ group ! 3 $ frame ! $ frame ! $
    use0 𝓛 (raw (fact 𝓤 (IfErr s (λ e. e ≡ no_memory)))) (fact_i 𝓤 _ (emp 𝓤) (subst (λ (s : O.Denot). IfErr s (λ e. e ≡ no_memory)) (sym same) (missing_opens_only list_in (list_of (tree_of v.now)) (ArrayOpened v.now) r seen))) $
    use0 𝓛 (raw (fact 𝓤 (IfSome (lent s) (ArrayOpened v.now)))) (fact_i 𝓤 _ (emp 𝓤) (subst (λ (s : O.Denot). IfSome (lent s) (ArrayOpened v.now)) (sym same) (missing_opened list_in (list_of (tree_of v.now)) (ArrayOpened v.now) r seen))) $
    use0 𝓛 (raw (fact 𝓤 (IfOk s (λ o. option_map (λ (x : MutBor (Container Value)). list_in x.now) o ≡ list_of (tree_of v.now))))) (fact_i 𝓤 _ (emp 𝓤) (subst (λ (s : O.Denot). IfOk s (λ o. option_map (λ (x : MutBor (Container Value)). list_in x.now) o ≡ list_of (tree_of v.now))) (sym same) (missing_opens list_in (list_of (tree_of v.now)) (ArrayOpened v.now) r seen))) $ done !))))))))))))
