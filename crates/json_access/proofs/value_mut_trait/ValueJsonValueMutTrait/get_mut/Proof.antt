use Rattle.json_value.proofs.HandProofs.{subst, Val, fact_i, emp, use0, use2, rewrite, of_opd, keep, heard, MutRef, only, ◌≡◌, [], ◌∷◌, refl, id⊢, ftrue, named, fact, tables, ‵, raw, ◌⊛◌, some, later, ◌$◌, ◌∵◌, !, qed, done, drop, use1, split, join, pick, await, suffices, group, enter, addr, stop, no_more, and_then, returns, alloc_all, pass_all, free_all, look_at, get, through, sets, lands_as, no, yes, move, peeks, shows, flft, mut_vals, mut_Tells, plain, nothing, calls_at, lasts, Lasts, triple_of, Stays, stay_dropped, Goes-spent_ref, Goes-dropped, ends_at, framed}
use mathlib.Core.List.{List, ◌++◌}
use denote.RattleType.{RattleType}
use denote.Param.{param, bounded}
use denote.Param.Laws.{param_laws}
use denote.Laws.{Is}
use denote.Triple.Walked.{walk_of}
use contract.BorrowLft.{◌⊑◌}
use mir.Syntax.{Args, Fn, a_type, dcons, dnil}
use mir.MapTy.{inst_fn}
use prog.Wp.{WpFn}
use types.Kit.{regoal, prop}
use Rattle.std.proofs.raw_atomic.Walks.{proved_at}
use Rattle.json_value.proofs.SingleValues.{one_of}
use Rattle.std.specs.contracts.alloc.Global.{the_row as global}
use Rattle.std.proofs.alloc.Global.TheLaws.{the_row_laws as global_laws, the_told as global_told}
use Rattle.json_value.specs.contracts.value.Value.{the_row as value}
use Rattle.json_value.proofs.value.Value.TheLaws.{the_row_laws as value_laws}
use Rattle.json_access.proofs.MaybeLent.{maybe_lent, maybe_lent_laws}
use Rattle.json_access.specs.contracts.value_mut_trait.ValueJsonValueMutTrait.get_mut as f
use Rattle.json_access.proofs.value_mut_trait.ValueJsonValueMutTrait.get_mut.Statement.{statement}
use Rattle.json_access.proofs.value_mut_trait.ValueJsonValueMutTrait.get_mut.Code as code
use denote.Triple.Clauses.{at_exit}
use Rattle.json_value.specs.contracts.value.Value.step_mut as g
use Rattle.json_value.proofs.value.Value.step_mut.Met as first-met
use Rattle.json_access.proofs.value_mut_trait.ValueJsonValueMutTrait.get_mut.Lts.{arg-0-0, laws-0-0}

pub get_mut_spec : {M : Type 1} → statement M
get_mut_spec {M} 𝓤 𝓛 𝓜 𝓡 wired I L x d dd met glue =
    let H = 𝓛.H in let 𝓣 = tables 𝓤 H 𝓜 𝓡 𝓡.env in
    let En = f.ended I x d dd in let c = f.clauses I x d dd 𝓛 𝓜.mem 𝓡.returns in
    let args : Args = bounded (a_type ∷ []) (I, tt) (dcons d (dcons dd dnil)) in
    let fn : Fn = inst_fn args code.function in
    let J : RattleType = param 0 I in let LJ = param_laws 0 I L in
    let stays : Stays En.signature.params En.kept = (stay_dropped _ no, (stay_dropped _ yes, (stay_dropped _ no, tt))) in
    proved_at 𝓛 En stays c 𝓜 𝓡 (Goes-spent_ref 𝓛 2 (0 ∷ []) tt (plain (λ _. value)), (Goes-dropped 𝓛 2 (plain (λ _. global)) yes (λ κs x w. refl), (Goes-dropped 𝓛 2 (plain (λ _. J)) no (λ κs x w. refl), tt)))
    (f.Key.name args) fn (code.unfolded 𝓤 H 𝓜 𝓡 wired (I, tt) d dd) (λ z are.
    let κs = z.0.0 in let qs = z.0.1 in let bounds = z.0.2 in let a = z.0.3 in let vss = z.0.4 in
    let v = a.0 in let alloc = a.1.0 in let i = a.1.1.0 in
    let T = MutRef (named 0) κs.0 value in
    let Post = (walk_of 𝓛 En stays c).post z in
    let lone = one_of vss.1.1.0 (LJ.single i vss.1.1.0 are.1.1.0) in let w = lone.0 in
    let e1 : vss.0 ≡ mut_vals v = mut_Tells (named 0) κs.0 value v vss.0 are.0 in
    let e2 : vss.1.0 ≡ global_told.val alloc ∷ [] = global_told.tells alloc vss.1.0 are.1.0 in
    let is_alloc : Is global alloc (global_told.val alloc ∷ []) = subst (Is global alloc) e2 are.1.0 in
    let is_i : Is J i (w ∷ []) = subst (Is J i) lone.1 are.1.1.0 in
    let fits_i = ((LJ.lawful 𝓛).typed i (w ∷ []) is_i).0 in
    qed 𝓛 (((‵ (flft κs.0 qs.0) ⊛ ‵ (flft κs.1.0 qs.1.0) ⊛ ‵ ftrue) ⊛ ‵ (T.own_val v vss.0) ⊛ ‵ (global.own_val alloc vss.1.0) ⊛ ‵ (J.own_val i vss.1.1.0) ⊛ ‵ ftrue) ∷ (raw (fact 𝓤 (κs.1.0 ⊑ I.lives)) ⊛ ‵ ftrue) ∷ []) ∵
    move ! (1 ∷ []) $ split ! $ heard ! _ (λ lives. drop ! $
    split ! $ split ! $ move ! (1 ∷ []) $ split ! $ move ! (3 ∷ []) $ split ! $ move ! (1 ∷ []) $ split ! $ move ! (1 ∷ []) $ split ! $
    -- [i; nothing; alloc; v; the second token; nothing; the first token]
    rewrite ! 0 (λ (us : List Val). ‵ (J.own_val i us)) lone.1 refl $ rewrite ! 2 (λ (us : List Val). ‵ (global.own_val alloc us)) e2 refl $ rewrite ! 3 (λ (us : List Val). ‵ (T.own_val v us)) e1 refl $
    keep ! (3 ∷ 2 ∷ 0 ∷ 6 ∷ 4 ∷ []) $
    regoal ! (λ (us : List Val). prop (WpFn 𝓤 H 𝓣.C 𝓣.Λ fn us Post)) (λ j. e1 j ++ (e2 j ++ (lone.1 j ++ []))) refl $
    enter ! 𝓣.C 𝓣.Λ fn (only (mut_vals v) ∷ global_told.val alloc ∷ w ∷ []) Post $ alloc_all ! (λ l. pass_all ! refl ((tt, tt), (((global_laws.lawful 𝓛).typed alloc _ is_alloc).0, (fits_i, tt))) $
    sets ! (addr ! (through ! refl (stop !))) refl (tt, tt) $ sets ! (of_opd ! (get ! refl)) refl fits_i $
    let J' : RattleType = arg-0-0 I L d dd κs in
    let G = triple_of 𝓛 (g.signature J') (g.spec J' x d dd 𝓛 𝓜.mem 𝓡.returns) in
    let z1 : G.Ghost = ((κs, qs, bounds, a, (mut_vals v, ((global_told.val alloc ∷ []), ((w ∷ []), tt)))), tt) in
    -- [v; alloc; i; the two tokens]
    nothing ! $ move ! (3 ∷ 0 ∷ []) $ join ! $ move ! (2 ∷ 0 ∷ []) $ join ! $ move ! (1 ∷ 0 ∷ []) $ join ! $
    nothing ! $ move ! (3 ∷ 0 ∷ []) $ join ! $ move ! (2 ∷ 0 ∷ []) $ join ! $ join ! $
    nothing ! $ use0 𝓛 (raw (fact 𝓤 (κs.1.0 ⊑ I.lives))) (fact_i 𝓤 _ (emp 𝓤) lives) $ join ! $ move ! (1 ∷ 0 ∷ []) $
    use2 𝓛 (raw (G.pre z1)) (id⊢ 𝓤 _) $
    calls_at ! (framed 𝓤 H 𝓜 𝓣) G (first-met.met 𝓤 𝓛 𝓜 𝓡 (code.calls-json_value::value::Value::step_mut 𝓡.env wired) J' (laws-0-0 I L d dd κs) x d dd (record { as_key = met.as_key; as_index = met.as_index }) glue) z1
    (and_then ! (get ! refl) (and_then ! (get ! refl) (and_then ! (get ! refl) (no_more !)))) (λ u.
    let O = maybe_lent value κs.0 in
    use1 𝓛 (later (some (λ (r : O.Denot). ((‵ (flft κs.0 qs.0) ⊛ ‵ (flft κs.1.0 qs.1.0) ⊛ ‵ ftrue) ⊛ ‵ (O.own_val r (u ∷ []))) ⊛ some (λ (ws : Lasts (g.ended J' x d dd) κs a). ‵ (lasts (g.ended J' x d dd) κs a ws) ⊛ raw ((g.clauses J' x d dd 𝓛 𝓜.mem 𝓡.returns κs a).ensures tt r (at_exit (g.ended J' x d dd) κs a ws)))))) (id⊢ 𝓤 _) $
    await ! tt $ pick ! (λ r. split ! $ split ! $ move ! (1 ∷ []) $ peeks ! O _ (shows 𝓛 O) r (u ∷ []) (λ is.
    lands_as ! refl refl ((((maybe_lent_laws value κs.0 tt value_laws).lawful 𝓛).typed r (u ∷ []) is).0) $
    returns ! (look_at ! 0 refl) $ free_all ! refl $
    -- [the result; the tokens; what is lent and said]
    move ! (2 ∷ []) $ pick ! (λ ws. split ! $ drop ! $
    suffices ! _ (ends_at 𝓛 En stays c z u r (tt, (tt, (tt, tt))) (tt, (tt, (tt, tt)))) $
    nothing ! $ nothing ! $ join ! $ nothing ! $ join ! $ nothing ! $ join ! $ move ! (3 ∷ 0 ∷ 2 ∷ 1 ∷ []) $ group ! 3 $ done !)))))))
