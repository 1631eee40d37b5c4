use Rattle.json_value.proofs.HandProofs.{subst, sym, ◌∙◌, ◌≡◌, List, [], ◌∷◌, refl, ap, lit<, id⊢, emp, ftrue, named, fact, fact_i, tables, ‵, raw, ◌⊛◌, some, later, at_ret, ◌$◌, ◌∵◌, !, qed, done, drop, use0, use1, use2, split, join, pick, await, suffices, group, frame, rewrite, enter, of_opd, lit, addr, stop, fld, no_more, and_then, first, exec, returns, alloc_all, pass_all, free_all, look_at, get, get_in, get_tag, through, sets, sets_last, lands_as, env, whole, agg, vrt, in_variant, no, yes, move, peeks, shows, flft, heard, mut_vals, mut_Tells, MutRef, MutBor, plain, nothing, only, calls_at, lasts, Lasts, triple_of, Stays, walk_of, stay_dropped, Goes-spent_ref, Goes-dropped, ends_at, framed, Ok, Err, proved}
use mathlib.Core.Logic.{inl, inr}
use lib.Dec.{T as IsTrue}
use types.Kit.{given, learn}
use types.Run.{switches_on}
use denote.RattleType.{RattleType}
use denote.Slice.{MutSlice, mut_slice_Lawful}
use denote.Struct.Field.{mut_slice_field, mut_ref_field}
use denote.Struct.Laws.{mut_slice_laws, mut_ref_laws}
use denote.Param.Laws.{of_field, row_shared}
use denote.Param.Shared.{mut_slice_shared, mut_ref_shared}
use Rattle.std.specs.Prelude.{IsOk, IfOk, IfErr, length, map, take, ◌++◌}
use Rattle.std.specs.Prelude as prelude
use Rattle.std.specs.Borrow.{Lends, LendsSoOk}
use Rattle.std.specs.Vec.{with_items}
use Rattle.std.specs.contracts.alloc.Global.{the_row as global}
use Rattle.json_io.specs.contracts.error.Error.{the_row as refusal}
use Rattle.std.specs.contracts.result.Result as result
use Rattle.std.proofs.alloc.Global.TheLaws.{the_row_laws as global_laws, the_told as global_told}
use Rattle.json_io.proofs.error.Error.TheLaws.{the_row_laws as refusal_laws, the_told as refusal_told}
use Rattle.std.specs.contracts.impls.GlobalAllocator.TheImpl.{ghosts}
use Rattle.std.proofs.vec.Vec.TheLaws.{the_row_laws as vec_laws}
use Rattle.std.proofs.result.Result.TheLaws.{the_row_laws as result_laws}
use Rattle.json_io.specs.Errors.{no_memory}
use Rattle.json_value.specs.Denotes.{tree_of, list_in}
use Rattle.json_value.specs.Rows.{array_row, value_row, vec_row, owned}
use Rattle.json_value.specs.Positions.{IsPlace}
use Rattle.json_value.specs.Written.{FirstElements}
use Rattle.json_value.specs.declared.container.Container.{Container}
use Rattle.json_value.specs.declared.value.Value.{Value}
use Rattle.json_value.proofs.value.Value.TheLaws.{the_row_laws as value_laws}
use Rattle.json_value.proofs.LentPaths.{which}
use Rattle.json_containers.specs.Changed.{ArrayBecame}
use Rattle.json_containers.specs.IntoIter.{slice_row}
use Rattle.json_containers.specs.Slices.{written_over, LendsElements}
use Rattle.json_value.proofs.BodyParts.{after, head, arm_body, then_runs}
use Rattle.json_value.proofs.Results.{ok_val, err_val, ok_out, err_out, err_in}
use Rattle.json_value.proofs.LenderRelations.{so_none}
use Rattle.json_containers.proofs.LentSlices.{made, ok_made, err_made, so_part}
use Rattle.json_containers.specs.contracts.array.ArrayArrayCalls.as_mut_slice as f
use Rattle.json_containers.proofs.array.ArrayArrayCalls.as_mut_slice.Statement.{statement}
use Rattle.json_containers.proofs.array.ArrayArrayCalls.as_mut_slice.Code as code
use Rattle.json_containers.specs.contracts.slices.elements_of as g
use Rattle.json_containers.proofs.slices.elements_of.Met as first-met
use Rattle.json_containers.specs.contracts.slices.slice_of as h
use Rattle.json_containers.proofs.slices.slice_of.Met as slice-met

abbrev stayed : Stays f.ended.signature.params f.ended.kept
stayed = (stay_dropped _ no, (stay_dropped _ yes, tt))

pub as_mut_slice_spec : {M : Type 1} → statement M
as_mut_slice_spec 𝓤 𝓛 𝓜 𝓡 wired =
    let c = f.clauses 𝓛 𝓜.mem 𝓡.returns in let 𝓣 = tables 𝓤 𝓛.H 𝓜 𝓡 𝓡.env in let W = walk_of 𝓛 f.ended stayed c in
    proved 𝓛 f.ended stayed c 𝓜 𝓡 (Goes-spent_ref 𝓛 1 (0 ∷ []) tt (plain (λ _. array_row)), (Goes-dropped 𝓛 1 (plain (λ _. global)) yes (λ κs x w. refl), tt))
    f.Key.name code.function (code.unfolded 𝓤 𝓛.H 𝓜 𝓡 wired)
    (λ κs. (mut_vals, ((λ x. global_told.val x ∷ []), tt))) (λ κs. (mut_Tells (named 0) κs.0 array_row, (global_told.tells, tt))) (λ κs qs bounds a _ are.
    let v = a.0 in let alloc = a.1.0 in let κ = κs.0 in
    let G = triple_of 𝓛 g.signature (g.spec 𝓛 𝓜.mem 𝓡.returns) in
    let z : G.Ghost = ((κs, qs, bounds, a, (mut_vals v, ((global_told.val alloc ∷ []), tt))), tt) in
    let Post = W.post z in
    let V : RattleType = MutRef (named 0) κ (vec_row value_row) in let R : RattleType = result.the_row V refusal in
    let S : RattleType = MutSlice (named 0) κ value_row in let Q : RattleType = result.the_row S refusal in
    qed 𝓛 (raw (G.pre z) ∷ []) ∵
    enter ! _ _ _ _ _ $ alloc_all ! (λ l. pass_all ! refl ((tt, tt), (((global_laws.lawful 𝓛).typed alloc _ are.1.0).0, tt)) $
    let En = env (code.function).locals l in
    let Then = then_runs 𝓤 𝓛.H 𝓣.C 𝓣.Λ En (after 3 (code.function).body) (at_ret En Post) in
    sets ! (addr ! (through ! refl (stop !))) refl (tt, tt) $
    calls_at ! (framed 𝓤 𝓛.H 𝓜 𝓣) G (first-met.met 𝓤 𝓛 𝓜 𝓡 (code.calls-json_containers::slices::elements_of 𝓡.env wired)) z
    (and_then ! (get ! refl) (and_then ! (get ! refl) (no_more !))) (λ o.
    use1 𝓛 (later (some (λ (r : R.Denot). ((‵ (flft κ qs.0) ⊛ ‵ ftrue) ⊛ ‵ (R.own_val r (o ∷ []))) ⊛ some (λ (ws : Lasts g.ended κs a). ‵ (lasts g.ended κs a ws) ⊛ (‵ (LendsSoOk array_row (vec_row value_row) v r (λ n w. n ≡ owned w) (λ n. n ≡ v.now)) ⊛ raw (fact 𝓤 (LendsElements v.now r))))))) (id⊢ 𝓤 _) $
    await ! tt $ pick ! (λ r. split ! $ split ! $ split ! $ move ! (3 ∷ []) $ pick ! (λ ws. split ! $ drop ! $ split ! $ move ! (1 ∷ []) $ heard ! _ (λ told. move ! (3 ∷ []) $
    -- [r; what it lends; the token; nothing]
    let Reads = λ (r : R.Denot). ‵ (LendsSoOk array_row (vec_row value_row) v r (λ n w. n ≡ owned w) (λ n. n ≡ v.now)) in
    let Lent = λ (q : Q.Denot). LendsSoOk array_row slice_row v q (λ n w. ArrayBecame (λ items. written_over items w) v.now n) (λ n. n ≡ v.now) in
    elim (which r) [
      | inl p ↦
          let x = p.0 in
          let said : LendsElements v.now (Ok x) = subst (λ (r : R.Denot). LendsElements v.now r) p.1 told in
          rewrite ! 0 (λ (r : R.Denot). ‵ (R.own_val r (o ∷ []))) p.1 refl $ rewrite ! 1 Reads p.1 refl $
          use1 𝓛 (given (o ∷ [] ≡ ok_val κ (vec_row value_row) refusal refusal_told x ∷ []) (‵ (V.own_val x (mut_vals x)))) (ok_out κ (vec_row value_row) refusal refusal_told 𝓛 x (o ∷ [])) $ learn ! (λ is_x.
          lands_as ! (ap only is_x) refl (tt, (record { fits = lit< tt }, (tt, tt))) $
          first ! $ switches_on ! (get_tag ! (vrt ! refl (fld ! refl (stop !))) (whole !)) $ exec ! 𝓣.C 𝓣.Λ En (arm_body 0 (head (after 2 (code.function).body))) Then $
          sets ! (of_opd ! (get_in ! (vrt ! refl (fld ! refl (stop !))) (in_variant ! 0 0 refl refl (whole !)))) refl (tt, tt) $
          sets ! (addr ! (through ! refl (stop !))) refl (tt, tt) $
          -- [x; what lent it; the token; nothing]
          let G3 = triple_of 𝓛 h.signature (h.spec 𝓛 𝓜.mem 𝓡.returns) in
          let z3 : G3.Ghost = (((κ, tt), (qs.0, tt), tt, (x, tt), (mut_vals x, tt)), tt) in
          nothing ! $ move ! (1 ∷ 0 ∷ []) $ join ! $ move ! (2 ∷ 3 ∷ []) $ join ! $ join ! $ nothing ! $ move ! (1 ∷ 0 ∷ []) $ use2 𝓛 (raw (G3.pre z3)) (id⊢ 𝓤 _) $
          calls_at ! (framed 𝓤 𝓛.H 𝓜 𝓣) G3 (slice-met.met 𝓤 𝓛 𝓜 𝓡 (code.calls-json_containers::slices::slice_of 𝓡.env wired)) z3 (and_then ! (get ! refl) (no_more !)) (λ k.
          use1 𝓛 (later (some (λ (s : S.Denot). ((‵ (flft κ qs.0) ⊛ ‵ ftrue) ⊛ ‵ (S.own_val s (k ∷ []))) ⊛ some (λ (ws : Lasts h.ended (κ, tt) (x, tt)). ‵ (lasts h.ended (κ, tt) (x, tt) ws) ⊛ (‵ (Lends (vec_row value_row) slice_row x s (with_items x.now)) ⊛ raw (fact 𝓤 (s.now ≡ x.now.items))))))) (id⊢ 𝓤 _) $
          await ! tt $ pick ! (λ s. split ! $ split ! $ split ! $ move ! (3 ∷ []) $ pick ! (λ ws3. split ! $ drop ! $ split ! $ move ! (1 ∷ []) $ heard ! _ (λ shown. move ! (3 ∷ []) $
          peeks ! S _ (shows 𝓛 S) s (k ∷ []) (λ is_s.
          lands_as ! refl refl (((mut_slice_Lawful 𝓛 (named 0) κ value_row).typed s (k ∷ []) is_s).0) $
          -- [the slice; how it is lent; the token; nothing; what lent x]
          let SF = mut_slice_field (record { mir = named 0; lft = κ }) value_row tt in
          let slice-laws = of_field SF (mut_slice_laws (record { mir = named 0; lft = κ }) value_row tt) refl (mut_slice_shared (record { mir = named 0; lft = κ }) value_row tt (row_shared value_row value_laws)) in
          use1 𝓛 (‵ (Q.own_val (Ok s) (made 0 k ∷ []))) (ok_made S refusal 𝓛 s k) $ peeks ! Q _ (shows 𝓛 Q) (Ok s) (made 0 k ∷ []) (λ is_q.
          let fits = ((((result_laws SF.row refusal slice-laws refusal_laws).lawful 𝓛).typed (Ok s) (made 0 k ∷ []) is_q).0) in
          sets_last ! (agg ! (and_then ! (lit ! tt) (and_then ! (get ! refl) (no_more !)))) refl fits $
          exec ! 𝓣.C 𝓣.Λ En (after 3 (code.function).body) (at_ret En Post) $
          sets ! (of_opd ! (get ! refl)) refl fits $ returns ! (look_at ! 0 refl) $ free_all ! refl $
          let res : Q.Denot = Ok s in
          let became : (w : List Value) (n : Container Value) → n ≡ owned (with_items x.now w) → ArrayBecame (λ items. written_over items w) v.now n
          = λ w n is. record { first = x.now.items; list = with_items x.now w; same = said.0; unpacked = said.1; is = is; changed = ap (λ k. take k (w ++ prelude.drop (length w) x.now.items)) x.now.ok.0 } in
          move ! (4 ∷ 1 ∷ []) $ use2 𝓛 (‵ (Lent (Ok s))) (so_part 𝓛 array_row (vec_row value_row) slice_row v.ghost_name x.ghost_name s.ghost_name _ _ (with_items x.now) _ _ (λ w n p at. became w n (p refl)) (λ n p. tt)) $
          -- [what is lent; the result; the token; nothing]
          suffices ! _ (ends_at 𝓛 f.ended stayed c z (made 0 k) (Ok s) (tt, (tt, tt)) (tt, (tt, tt))) $
          move ! (2 ∷ 3 ∷ []) $ join ! $ nothing ! $ nothing ! $ join ! $ nothing ! $ join ! $ move ! (1 ∷ 0 ∷ 3 ∷ 2 ∷ []) $ group ! 3 $ frame ! $ frame ! $
          use0 𝓛 (raw (fact 𝓤 (IfErr res (λ e. e ≡ no_memory)))) (fact_i 𝓤 _ (emp 𝓤) tt) $ use0 𝓛 (raw (fact 𝓤 ((IsPlace v.now → ⊥) → IsOk res))) (fact_i 𝓤 _ (emp 𝓤) (λ _. refl)) $
          use0 𝓛 (raw (fact 𝓤 (IfOk res (λ (s : MutBor (List Value)). FirstElements v.now s.now)))) (fact_i 𝓤 _ (emp 𝓤) (subst (FirstElements v.now) (sym shown) said.1)) $ use0 𝓛 (raw (fact 𝓤 (IfOk res (λ (s : MutBor (List Value)). map tree_of s.now ≡ list_in v.now)))) (fact_i 𝓤 _ (emp 𝓤) (ap (map tree_of) shown ∙ said.0)) $ done !)))))))
      | inr p ↦
          let x = p.0 in
          let u = refusal_told.val x in
          let res : Q.Denot = Err x in
          let said : LendsElements v.now (Err x) = subst (λ (r : R.Denot). LendsElements v.now r) p.1 told in
          rewrite ! 0 (λ (r : R.Denot). ‵ (R.own_val r (o ∷ []))) p.1 refl $ rewrite ! 1 Reads p.1 refl $
          use1 𝓛 (given (o ∷ [] ≡ err_val κ (vec_row value_row) refusal refusal_told x ∷ []) (‵ (refusal.own_val x (u ∷ [])))) (err_out κ (vec_row value_row) refusal refusal_told 𝓛 x (o ∷ [])) $ learn ! (λ is_x.
          let whole_x = err_val κ (vec_row value_row) refusal refusal_told x in
          use1 𝓛 (‵ (R.own_val (Err x) (whole_x ∷ []))) (err_in κ (vec_row value_row) refusal refusal_told 𝓛 x) $ peeks ! R _ (shows 𝓛 R) (Err x) (whole_x ∷ []) (λ is_r.
          let VF = mut_ref_field (record { mir = named 0; lft = κ }) (vec_row value_row) tt in
          let list-laws = of_field VF (mut_ref_laws (record { mir = named 0; lft = κ }) (vec_row value_row) tt) refl (mut_ref_shared (record { mir = named 0; lft = κ }) (vec_row value_row) tt (row_shared (vec_row value_row) (vec_laws value_row global ghosts value_laws global_laws))) in
          use1 𝓛 (given (whole_x ∷ [] ≡ whole_x ∷ []) (‵ (refusal.own_val x (u ∷ [])))) (err_out κ (vec_row value_row) refusal refusal_told 𝓛 x (whole_x ∷ [])) $ learn ! (λ _.
          peeks ! refusal _ (shows 𝓛 refusal) x (u ∷ []) (λ is_u. let fits_u = ((refusal_laws.lawful 𝓛).typed x (u ∷ []) is_u).0 in
          let SF = mut_slice_field (record { mir = named 0; lft = κ }) value_row tt in
          let slice-laws = of_field SF (mut_slice_laws (record { mir = named 0; lft = κ }) value_row tt) refl (mut_slice_shared (record { mir = named 0; lft = κ }) value_row tt (row_shared value_row value_laws)) in
          use1 𝓛 (‵ (Q.own_val (Err x) (made 1 u ∷ []))) (err_made S refusal 𝓛 x u) $ peeks ! Q _ (shows 𝓛 Q) (Err x) (made 1 u ∷ []) (λ is_q.
          let fits = ((((result_laws SF.row refusal slice-laws refusal_laws).lawful 𝓛).typed (Err x) (made 1 u ∷ []) is_q).0) in
          lands_as ! (ap only is_x) refl ((((result_laws VF.row refusal list-laws refusal_laws).lawful 𝓛).typed (Err x) (whole_x ∷ []) is_r).0) $
          first ! $ switches_on ! (get_tag ! (vrt ! refl (fld ! refl (stop !))) (whole !)) $ exec ! 𝓣.C 𝓣.Λ En (arm_body 1 (head (after 2 (code.function).body))) Then $
          sets ! (of_opd ! (get_in ! (vrt ! refl (fld ! refl (stop !))) (in_variant ! 1 0 refl refl (whole !)))) refl fits_u $
          sets_last ! (agg ! (and_then ! (lit ! tt) (and_then ! (get ! refl) (no_more !)))) refl fits $
          exec ! 𝓣.C 𝓣.Λ En (after 3 (code.function).body) (at_ret En Post) $
          sets ! (of_opd ! (get ! refl)) refl fits $ returns ! (look_at ! 0 refl) $ free_all ! refl $
          move ! (1 ∷ []) $ use1 𝓛 (‵ (Lent (Err x))) (so_none 𝓛 array_row (vec_row value_row) slice_row v.ghost_name _ _ _ _ (λ w n p at. absurd (subst IsTrue (sym at) tt)) (λ n p. p)) $
          suffices ! _ (ends_at 𝓛 f.ended stayed c z (made 1 u) (Err x) (tt, (tt, tt)) (tt, (tt, tt))) $
          move ! (2 ∷ 3 ∷ []) $ join ! $ nothing ! $ nothing ! $ join ! $ nothing ! $ join ! $ move ! (1 ∷ 0 ∷ 3 ∷ 2 ∷ []) $ group ! 3 $ frame ! $ frame ! $
          use0 𝓛 (raw (fact 𝓤 (IfErr res (λ e. e ≡ no_memory)))) (fact_i 𝓤 _ (emp 𝓤) said.0) $ use0 𝓛 (raw (fact 𝓤 ((IsPlace v.now → ⊥) → IsOk res))) (fact_i 𝓤 _ (emp 𝓤) (λ own. absurd (said.1 own))) $
          use0 𝓛 (raw (fact 𝓤 (IfOk res (λ (s : MutBor (List Value)). FirstElements v.now s.now)))) (fact_i 𝓤 _ (emp 𝓤) tt) $ use0 𝓛 (raw (fact 𝓤 (IfOk res (λ (s : MutBor (List Value)). map tree_of s.now ≡ list_in v.now)))) (fact_i 𝓤 _ (emp 𝓤) tt) $ done !)))))
    ]))))))
