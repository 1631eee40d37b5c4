use Rattle.json_value.proofs.HandProofs.{[], ◌∷◌, refl, proved, id⊢, emp, ftrue, named, fact, fact_i, tables, full_share, ‵, raw, ◌⊛◌, some, later, ◌$◌, ◌∵◌, !, qed, done, drop, use0, use1, use2, split, join, pick, await, suffices, group, enter, addr, stop, no_more, and_then, returns, alloc_all, pass_all, free_all, look_at, get, through, sets, lands_as, no, yes, move, keep, peeks, shows, flft, heard, mut_vals, mut_Tells, MutRef, plain, nothing, calls_at, lasts, Lasts, triple_of, Stays, stay_dropped, Goes-spent_ref, Goes-dropped, ends_at, framed, ◌≡◌}
use mathlib.Core.List.{not-mem-nil}
use contract.Lifetimes.{Lfts}
use contract.BorrowLft.{◌⊑◌}
use base.Fml.{Incl}
use mir.Syntax.{Args, Fn, a_type, dcons, dnil}
use mir.MapTy.{inst_fn}
use denote.RattleType.{RattleType}
use denote.Param.{param, bounded}
use denote.Param.Laws.{of_field, row_shared}
use denote.Param.Shared.{mut_ref_shared}
use denote.Ref.{ShrRef, shr_vals, shr_Tells}
use denote.Signature.{shr_ref_to}
use denote.Struct.Field.{mut_ref_field}
use denote.Struct.Laws.{mut_ref_laws}
use Rattle.std.specs.Prelude.{Ok, IfOk, IfErr}
use Rattle.std.specs.Borrow.{LendsSoOk}
use Rattle.std.specs.contracts.alloc.Global.{the_row as global}
use Rattle.std.specs.contracts.result.Result as result
use Rattle.std.proofs.alloc.Global.TheLaws.{the_row_laws as global_laws, the_told as global_told}
use Rattle.std.proofs.result.Result.TheLaws.{the_row_laws as result_laws}
use Rattle.json_grammar.specs.Tree.{Tree}
use Rattle.json_io.specs.contracts.error.Error.{the_row as refusal}
use Rattle.json_io.proofs.error.Error.TheLaws.{the_row_laws as refusal_laws}
use Rattle.json_value.specs.Denotes.{tree_of}
use Rattle.json_value.specs.Edits.{RefusesChange}
use Rattle.json_value.specs.Lending.{put_or_insert, PutsNothing}
use Rattle.json_value.specs.Steps.{child, tree_or_null}
use Rattle.json_value.specs.Touched.{ExchangesOrUpserts}
use Rattle.json_value.specs.contracts.value.Value.{the_row as value}
use Rattle.json_value.proofs.value.Value.TheLaws.{the_row_laws as value_laws}
use Rattle.json_value.specs.contracts.index.Index.index_or_insert as f
use Rattle.json_value.proofs.index.Index.index_or_insert.Statement.{statement}
use Rattle.json_value.proofs.index.Index.index_or_insert.Code as code
use Rattle.json_value.proofs.index.Index.index_or_insert.Lts.{arg-0-0, arg-0-1, laws-0-0, laws-0-1}
use Rattle.json_value.specs.contracts.container_mut.place_or_insert as g
use Rattle.json_value.proofs.container_mut.place_or_insert.Met as first-met
use Rattle.json_value.specs.contracts.container_mut.ValueContainerMut.TheImpl as impl
use Rattle.json_value.proofs.container_mut.ValueContainerMut.TheImpl.Met as impl-met

pub index_or_insert_spec : {M : Type 1} → statement M
index_or_insert_spec {M} 𝓤 𝓛 𝓜 𝓡 wired I L x d dd met glue =
    let H = 𝓛.H in let 𝓣 = tables 𝓤 H 𝓜 𝓡 𝓡.env in
    let En = f.ended I x d dd in let c = f.clauses I x d dd 𝓛 𝓜.mem 𝓡.returns in
    let args : Args = bounded (a_type ∷ []) (I, tt) (dcons d (dcons dd dnil)) in
    let fn : Fn = inst_fn args code.function in
    let J : RattleType = param 0 I in
    let stays : Stays En.signature.params En.kept = (stay_dropped _ yes, (stay_dropped _ yes, (stay_dropped _ no, tt))) in
    proved 𝓛 En stays c 𝓜 𝓡 (Goes-dropped 𝓛 3 (shr_ref_to (0 ∷ []) tt (plain (λ _. J))) yes (λ κs x w. refl), (Goes-dropped 𝓛 3 (plain (λ _. global)) yes (λ κs x w. refl), (Goes-spent_ref 𝓛 3 (1 ∷ []) tt (plain (λ _. value)), tt)))
    (f.Key.name args) fn (code.unfolded 𝓤 H 𝓜 𝓡 wired (I, tt) d dd)
    (λ κs. (shr_vals, ((λ x. global_told.val x ∷ []), (mut_vals, tt)))) (λ κs. (shr_Tells (named 0) κs.0 J, (global_told.tells, (mut_Tells (named 1) κs.1.0 value, tt)))) (λ κs qs bounds a _ are.
    let i = a.0 in let alloc = a.1.0 in let v = a.1.1.0 in
    let N = ShrRef (named 0) κs.0 J in let T = MutRef (named 1) κs.1.0 value in
    let κs4 : Lfts 4 = (κs.1.0, (κs.0, ([], (κs.1.1.0, tt)))) in
    let S : RattleType = arg-0-0 I L d dd κs4 in let J' : RattleType = arg-0-1 I L d dd κs4 in
    let G = triple_of 𝓛 (g.signature S J') (g.spec S J' impl.ghosts impl.dict x d dd 𝓛 𝓜.mem 𝓡.returns) in
    let z : G.Ghost = ((κs4, (qs.1.0, (qs.0, (full_share, (qs.1.1.0, tt)))), ((λ n m. absurd (not-mem-nil m)), (bounds.0, tt)), (v, (alloc, (i, tt))), (mut_vals v, ((global_told.val alloc ∷ []), (shr_vals i, tt)))), tt) in
    qed 𝓛 (((‵ (flft κs.0 qs.0) ⊛ ‵ (flft κs.1.0 qs.1.0) ⊛ ‵ (flft κs.1.1.0 qs.1.1.0) ⊛ ‵ ftrue) ⊛ ‵ (N.own_val i (shr_vals i)) ⊛ ‵ (global.own_val alloc (global_told.val alloc ∷ [])) ⊛ ‵ (T.own_val v (mut_vals v)) ⊛ ‵ ftrue) ∷ (raw (fact 𝓤 (κs.1.1.0 ⊑ I.lives)) ⊛ ‵ ftrue) ∷ []) ∵
    move ! (1 ∷ []) $ split ! $ heard ! _ (λ lives. drop ! $
    split ! $ split ! $ move ! (1 ∷ []) $ split ! $ move ! (1 ∷ []) $ split ! $ move ! (4 ∷ []) $ split ! $ move ! (1 ∷ []) $ split ! $ move ! (1 ∷ []) $ split ! $
    keep ! (0 ∷ 2 ∷ 3 ∷ 7 ∷ 6 ∷ 4 ∷ []) $
    enter ! _ _ _ _ _ $ alloc_all ! (λ l. pass_all ! refl ((tt, tt), (((global_laws.lawful 𝓛).typed alloc _ are.1.0).0, ((tt, tt), tt))) $
    sets ! (addr ! (through ! refl (stop !))) refl (tt, tt) $
    -- [v; alloc; the step; its token; the token of v; the token of the step's type]
    nothing ! $ move ! (3 ∷ 0 ∷ []) $ join ! $ move ! (2 ∷ 0 ∷ []) $ join ! $ move ! (1 ∷ 0 ∷ []) $ join ! $
    nothing ! $ move ! (4 ∷ 0 ∷ []) $ join ! $ use0 𝓛 (‵ (flft [] full_share)) (𝓛.lfts.lft-nil full_share) $ join ! $ move ! (2 ∷ 0 ∷ []) $ join ! $ move ! (2 ∷ 0 ∷ []) $ join ! $ join ! $
    nothing ! $ use0 𝓛 (raw (fact 𝓤 (κs.1.1.0 ⊑ I.lives))) (fact_i 𝓤 _ (emp 𝓤) lives) $ join ! $ use0 𝓛 (raw (fact 𝓤 (Incl [] value.lives))) (fact_i 𝓤 (Incl [] value.lives) (emp 𝓤) (λ n m. m)) $ join ! $ move ! (1 ∷ 0 ∷ []) $
    use2 𝓛 (raw (G.pre z)) (id⊢ 𝓤 _) $
    calls_at ! (framed 𝓤 H 𝓜 𝓣) G (first-met.met 𝓤 𝓛 𝓜 𝓡 (code.calls-json_value::container_mut::place_or_insert 𝓡.env wired) S J' (laws-0-0 I L d dd κs4) (laws-0-1 I L d dd κs4) impl.ghosts impl.dict x d dd (impl-met.passed 𝓡.env (code.calls-json_value::container_mut::ValueContainerMut::list 𝓡.env wired) (code.calls-json_value::container_mut::ValueContainerMut::pairs 𝓡.env wired) (code.calls-json_value::container_mut::ValueContainerMut::pairs_with 𝓡.env wired) M 𝓤 𝓛 𝓜 𝓡) (record { as_key = met.as_key; as_index = met.as_index }) glue) z
    (and_then ! (get ! refl) (and_then ! (get ! refl) (and_then ! (get ! refl) (no_more !)))) (λ u.
    let F = mut_ref_field (record { mir = named 1; lft = κs.1.0 }) value tt in
    let ref-laws = of_field F (mut_ref_laws (record { mir = named 1; lft = κs.1.0 }) value tt) refl (mut_ref_shared (record { mir = named 1; lft = κs.1.0 }) value tt (row_shared value value_laws)) in
    let R = result.the_row F.row refusal in
    let Lent = λ (r : R.Denot). LendsSoOk value value v r (λ n w. (put_or_insert (x.step i.now) (tree_of w) (tree_of v.now) ≡ Ok (tree_of n)) × IfOk r (λ y. ExchangesOrUpserts (x.step i.now) y.now w v.now n)) (PutsNothing (x.step i.now ∷ []) v.now) in
    use1 𝓛 (later (some (λ (r : R.Denot). ((‵ (flft κs.1.0 qs.1.0) ⊛ ‵ (flft κs.0 qs.0) ⊛ ‵ (flft [] full_share) ⊛ ‵ (flft κs.1.1.0 qs.1.1.0) ⊛ ‵ ftrue) ⊛ ‵ (R.own_val r (u ∷ []))) ⊛ some (λ (ws : Lasts (g.ended S J' impl.ghosts impl.dict x d dd) κs4 (v, (alloc, (i, tt)))). ‵ (lasts (g.ended S J' impl.ghosts impl.dict x d dd) κs4 (v, (alloc, (i, tt))) ws) ⊛ (‵ (Lent r) ⊛ (raw (fact 𝓤 (IfOk r (λ y. tree_of y.now ≡ tree_or_null (child (x.step i.now) (tree_of v.now))))) ⊛ raw (fact 𝓤 (IfErr r (λ e. (t : Tree) → RefusesChange (put_or_insert (x.step i.now) t (tree_of v.now)) e.code e.place))))))))) (id⊢ 𝓤 _) $
    await ! tt $ pick ! (λ r. split ! $ split ! $ split ! $ move ! (2 ∷ []) $ peeks ! R _ (shows 𝓛 R) r (u ∷ []) (λ is.
    lands_as ! refl refl ((((result_laws F.row refusal ref-laws refusal_laws).lawful 𝓛).typed r (u ∷ []) is).0) $
    returns ! (look_at ! 0 refl) $ free_all ! refl $
    -- [the result; the token of v; the other tokens; what is lent]
    move ! (3 ∷ []) $ pick ! (λ ws. split ! $ drop ! $ move ! (3 ∷ []) $ split ! $ move ! (1 ∷ []) $ split ! $ move ! (1 ∷ []) $ split ! $ keep ! (4 ∷ 5 ∷ 3 ∷ 6 ∷ 0 ∷ []) $
    suffices ! _ (ends_at 𝓛 En stays c ((κs, qs, bounds, a, (shr_vals i, ((global_told.val alloc ∷ []), (mut_vals v, tt)))), tt) u r (tt, (tt, (tt, tt))) (tt, (tt, (tt, tt)))) $
    -- [what is lent; the result; the step's token; the token of v; the token of the step's type]
    nothing ! $ move ! (5 ∷ 0 ∷ []) $ join ! $ move ! (4 ∷ 0 ∷ []) $ join ! $ move ! (3 ∷ 0 ∷ []) $ join ! $ nothing ! $ nothing ! $ join ! $ nothing ! $ join ! $ nothing ! $ join ! $ move ! (1 ∷ 0 ∷ 3 ∷ 2 ∷ []) $ group ! 3 $ done !)))))))
