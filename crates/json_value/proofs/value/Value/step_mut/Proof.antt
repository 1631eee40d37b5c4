use Rattle.json_value.proofs.HandProofs.{MutBor, subst, ◌≡◌, [], ◌∷◌, refl, sym, ap, ◌∙◌, frame, id⊢, emp, ftrue, named, Val, fact, fact_i, tables, full_share, ‵, raw, ◌⊛◌, some, later, ◌$◌, ◌∵◌, !, qed, done, drop, use0, use1, use2, split, join, pick, await, suffices, group, rewrite, enter, of_opd, addr, stop, no_more, and_then, returns, alloc_all, pass_all, free_all, look_at, get, through, sets, lands_as, no, yes, move, keep, peeks, shows, flft, heard, mut_vals, mut_Tells, MutRef, plain, nothing, only, calls_at, lasts, Lasts, triple_of, Stays, stay_dropped, Goes-spent_ref, Goes-dropped, ends_at, framed, GName}
use mathlib.Core.Option as maybe
use mathlib.Core.List.{not-mem-nil}
use contract.Lifetimes.{Lfts}
use base.Fml.{Incl}
use denote.RattleType.{RattleType}
use denote.Param.{param, bounded}
use denote.Param.Laws.{param_laws}
use Rattle.json_value.proofs.SingleValues.{one_of}
use denote.Laws.{Is}
use contract.BorrowLft.{◌⊑◌}
use mir.Syntax.{Args, Fn, a_type, dcons, dnil}
use mir.MapTy.{inst_fn}
use mathlib.Core.List.{List, ◌++◌}
use prog.Wp.{WpFn}
use types.Kit.{regoal, prop}
use Rattle.std.proofs.raw_atomic.Walks.{proved_at}
use denote.Triple.Walked.{walk_of}
use denote.Struct.Field.{mut_ref_field}
use denote.Struct.Laws.{mut_ref_laws}
use denote.Param.Laws.{of_field, row_shared}
use denote.Param.Shared.{mut_ref_shared}
use Rattle.json_value.specs.Lending.{LendsStep, LendsNamed, PutsAtPath, PutsNothing, LeadsTo, missing_as_none, lent, lent_name, name_of_ok}
use Rattle.json_value.specs.Steps.{child}
use Rattle.json_value.proofs.MissingPlaces.{missing_lent, one_step, missing_name, missing_leads, missing_only}
use Rattle.json_io.specs.Errors.{no_memory}
use Rattle.json_value.specs.contracts.value.Value.{the_row as value}
use Rattle.json_io.specs.contracts.error.Error.{the_row as refusal}
use Rattle.std.specs.contracts.alloc.Global.{the_row as global}
use Rattle.std.specs.contracts.option.Option as option
use Rattle.std.specs.contracts.result.Result as result
use Rattle.std.specs.Prelude.{IfOk, IfErr, Option, option_map, IfSome}
use Rattle.json_grammar.specs.Tree.{Tree}
use Rattle.json_value.specs.Denotes.{tree_of}
use Rattle.json_value.specs.declared.value.Value.{Value}
use Rattle.json_value.proofs.LenderRelations.{so_weaken}
use Rattle.json_value.proofs.LentNames.{place_ok, on_no_place}
use Rattle.std.proofs.alloc.Global.TheLaws.{the_row_laws as global_laws, the_told as global_told}
use Rattle.std.proofs.result.Result.TheLaws.{the_row_laws as result_laws}
use Rattle.std.proofs.option.Option.TheLaws.{the_row_laws as option_laws}
use Rattle.json_io.proofs.error.Error.TheLaws.{the_row_laws as refusal_laws}
use Rattle.json_value.proofs.value.Value.TheLaws.{the_row_laws as value_laws}
use Rattle.json_value.specs.contracts.value.Value.step_mut as f
use Rattle.json_value.proofs.value.Value.step_mut.Statement.{statement}
use Rattle.json_value.proofs.value.Value.step_mut.Code as code
use Rattle.json_value.proofs.value.Value.step_mut.Lts.{arg-0-0, arg-0-1, laws-0-0, laws-0-1}
use Rattle.json_value.specs.contracts.container_mut.step_of as g
use Rattle.json_value.proofs.container_mut.step_of.Met as first-met
use Rattle.json_value.specs.contracts.container_mut.ValueContainerMut.TheImpl as impl
use Rattle.json_value.proofs.container_mut.ValueContainerMut.TheImpl.Met as impl-met
use Rattle.json_value.specs.contracts.places.none_if_missing as h
use Rattle.json_value.proofs.places.none_if_missing.Met as second-met

pub step_mut_spec : {M : Type 1} → statement M
step_mut_spec {M} 𝓤 𝓛 𝓜 𝓡 wired I L x d dd met glue =
    let H = 𝓛.H in let 𝓣 = tables 𝓤 H 𝓜 𝓡 𝓡.env in
    let En = f.ended I x d dd in let c = f.clauses I x d dd 𝓛 𝓜.mem 𝓡.returns in
    let args : Args = bounded (a_type ∷ []) (I, tt) (dcons d (dcons dd dnil)) in
    let fn : Fn = inst_fn args code.function in
    let J : RattleType = param 0 I in let LJ = param_laws 0 I L in
    let stays : Stays En.signature.params En.kept = (stay_dropped _ no, (stay_dropped _ yes, (stay_dropped _ no, tt))) in
    proved_at 𝓛 En stays c 𝓜 𝓡 (Goes-spent_ref 𝓛 2 (0 ∷ []) tt (plain (λ _. value)), (Goes-dropped 𝓛 2 (plain (λ _. global)) yes (λ κs x w. refl), (Goes-dropped 𝓛 2 (plain (λ _. J)) no (λ κs x w. refl), tt)))
    (f.Key.name args) fn (code.unfolded 𝓤 H 𝓜 𝓡 wired (I, tt) d dd) (λ z are.
    let κs = z.0.0 in let qs = z.0.1 in let a = z.0.3 in let vss = z.0.4 in
    let v = a.0 in let alloc = a.1.0 in let i = a.1.1.0 in
    let T = MutRef (named 0) κs.0 value in
    let Post = (walk_of 𝓛 En stays c).post z in
    let lone = one_of vss.1.1.0 (LJ.single i vss.1.1.0 are.1.1.0) in let w = lone.0 in
    let e1 : vss.0 ≡ mut_vals v = mut_Tells (named 0) κs.0 value v vss.0 are.0 in
    let e2 : vss.1.0 ≡ global_told.val alloc ∷ [] = global_told.tells alloc vss.1.0 are.1.0 in
    let is_alloc : Is global alloc (global_told.val alloc ∷ []) = subst (Is global alloc) e2 are.1.0 in
    let is_i : Is J i (w ∷ []) = subst (Is J i) lone.1 are.1.1.0 in
    let fits_i = ((LJ.lawful 𝓛).typed i (w ∷ []) is_i).0 in
    qed 𝓛 (((‵ (flft κs.0 qs.0) ⊛ ‵ (flft κs.1.0 qs.1.0) ⊛ ‵ ftrue) ⊛ ‵ (T.own_val v vss.0) ⊛ ‵ (global.own_val alloc vss.1.0) ⊛ ‵ (J.own_val i vss.1.1.0) ⊛ ‵ ftrue) ∷ (raw (fact 𝓤 (κs.1.0 ⊑ I.lives)) ⊛ ‵ ftrue) ∷ []) ∵
    move ! (1 ∷ []) $ split ! $ heard ! _ (λ lives. drop ! $
    split ! $ split ! $ move ! (1 ∷ []) $ split ! $ move ! (3 ∷ []) $ split ! $ move ! (1 ∷ []) $ split ! $ move ! (1 ∷ []) $ split ! $
    -- [i; nothing; alloc; v; the second token; nothing; the first token]
    rewrite ! 0 (λ (us : List Val). ‵ (J.own_val i us)) lone.1 refl $ rewrite ! 2 (λ (us : List Val). ‵ (global.own_val alloc us)) e2 refl $ rewrite ! 3 (λ (us : List Val). ‵ (T.own_val v us)) e1 refl $
    keep ! (3 ∷ 2 ∷ 0 ∷ 6 ∷ 4 ∷ []) $
    regoal ! (λ (us : List Val). prop (WpFn 𝓤 H 𝓣.C 𝓣.Λ fn us Post)) (λ j. e1 j ++ (e2 j ++ (lone.1 j ++ []))) refl $
    enter ! 𝓣.C 𝓣.Λ fn (only (mut_vals v) ∷ global_told.val alloc ∷ w ∷ []) Post $ alloc_all ! (λ l. pass_all ! refl ((tt, tt), (((global_laws.lawful 𝓛).typed alloc _ is_alloc).0, (fits_i, tt))) $
    sets ! (addr ! (through ! refl (stop !))) refl (tt, tt) $ sets ! (of_opd ! (get ! refl)) refl fits_i $
    let κs3 : Lfts 3 = (κs.0, ([], (κs.1.0, tt))) in
    let S : RattleType = arg-0-0 I L d dd κs3 in let J' : RattleType = arg-0-1 I L d dd κs3 in
    let G = triple_of 𝓛 (g.signature S J') (g.spec S J' impl.ghosts impl.dict x d dd 𝓛 𝓜.mem 𝓡.returns) in
    let z1 : G.Ghost = ((κs3, (qs.0, (full_share, (qs.1.0, tt))), ((λ n m. absurd (not-mem-nil m)), tt), a, (mut_vals v, ((global_told.val alloc ∷ []), ((w ∷ []), tt)))), tt) in
    -- [v; alloc; i; the two tokens]
    nothing ! $ move ! (3 ∷ 0 ∷ []) $ join ! $ move ! (2 ∷ 0 ∷ []) $ join ! $ move ! (1 ∷ 0 ∷ []) $ join ! $
    nothing ! $ move ! (3 ∷ 0 ∷ []) $ join ! $ use0 𝓛 (‵ (flft [] full_share)) (𝓛.lfts.lft-nil full_share) $ join ! $ move ! (2 ∷ 0 ∷ []) $ join ! $ join ! $
    nothing ! $ use0 𝓛 (raw (fact 𝓤 (κs.1.0 ⊑ I.lives))) (fact_i 𝓤 _ (emp 𝓤) lives) $ join ! $ use0 𝓛 (raw (fact 𝓤 (Incl [] value.lives))) (fact_i 𝓤 (Incl [] value.lives) (emp 𝓤) (λ n m. m)) $ join ! $ move ! (1 ∷ 0 ∷ []) $
    use2 𝓛 (raw (G.pre z1)) (id⊢ 𝓤 _) $
    calls_at ! (framed 𝓤 H 𝓜 𝓣) G (first-met.met 𝓤 𝓛 𝓜 𝓡 (code.calls-json_value::container_mut::step_of 𝓡.env wired) S J' (laws-0-0 I L d dd κs3) (laws-0-1 I L d dd κs3) impl.ghosts impl.dict x d dd (impl-met.passed 𝓡.env (code.calls-json_value::container_mut::ValueContainerMut::list 𝓡.env wired) (code.calls-json_value::container_mut::ValueContainerMut::pairs 𝓡.env wired) (code.calls-json_value::container_mut::ValueContainerMut::pairs_with 𝓡.env wired) M 𝓤 𝓛 𝓜 𝓡) (record { as_key = met.as_key; as_index = met.as_index }) glue) z1
    (and_then ! (get ! refl) (and_then ! (get ! refl) (and_then ! (get ! refl) (no_more !)))) (λ u.
    let F = mut_ref_field (record { mir = named 0; lft = κs.0 }) value tt in
    let ref-laws = of_field F (mut_ref_laws (record { mir = named 0; lft = κs.0 }) value tt) refl (mut_ref_shared (record { mir = named 0; lft = κs.0 }) value tt (row_shared value value_laws)) in
    let R = result.the_row F.row refusal in let O = result.the_row (option.the_row F.row) refusal in
    use1 𝓛 (later (some (λ (r : R.Denot). ((‵ (flft κs.0 qs.0) ⊛ ‵ (flft [] full_share) ⊛ ‵ (flft κs.1.0 qs.1.0) ⊛ ‵ ftrue) ⊛ ‵ (R.own_val r (u ∷ []))) ⊛ some (λ (ws : Lasts (g.ended S J' impl.ghosts impl.dict x d dd) κs3 a). ‵ (lasts (g.ended S J' impl.ghosts impl.dict x d dd) κs3 a ws) ⊛ (‵ (LendsStep v (x.step i) r) ⊛ raw (fact 𝓤 (LeadsTo (x.step i ∷ []) (tree_of v.now) r))))))) (id⊢ 𝓤 _) $
    await ! tt $ pick ! (λ r. split ! $ split ! $ split ! $ move ! (2 ∷ []) $ peeks ! R _ (shows 𝓛 R) r (u ∷ []) (λ is.
    lands_as ! refl refl ((((result_laws F.row refusal ref-laws refusal_laws).lawful 𝓛).typed r (u ∷ []) is).0) $
    let G2 = triple_of 𝓛 h.signature (h.spec 𝓛 𝓜.mem 𝓡.returns) in
    let z2 : G2.Ghost = (((κs.0, tt), (qs.0, tt), tt, (r, tt), ((u ∷ []), tt)), tt) in
    -- [r; the token; the other tokens; what was lent]
    nothing ! $ move ! (1 ∷ 0 ∷ []) $ join ! $ nothing ! $ move ! (2 ∷ 0 ∷ []) $ join ! $ join ! $ nothing ! $ move ! (1 ∷ 0 ∷ []) $
    use2 𝓛 (raw (G2.pre z2)) (id⊢ 𝓤 _) $
    calls_at ! (framed 𝓤 H 𝓜 𝓣) G2 (second-met.met 𝓤 𝓛 𝓜 𝓡 (code.calls-json_value::places::none_if_missing 𝓡.env wired)) z2 (and_then ! (get ! refl) (no_more !)) (λ o.
    use1 𝓛 (later (some (λ (s : O.Denot). ((‵ (flft κs.0 qs.0) ⊛ ‵ ftrue) ⊛ ‵ (O.own_val s (o ∷ []))) ⊛ some (λ (ws : Lasts h.ended (κs.0, tt) (r, tt)). ‵ (lasts h.ended (κs.0, tt) (r, tt) ws) ⊛ raw (fact 𝓤 (s ≡ missing_as_none r)))))) (id⊢ 𝓤 _) $
    await ! tt $ pick ! (λ s. split ! $ split ! $ split ! $ move ! (2 ∷ []) $ peeks ! O _ (shows 𝓛 O) s (o ∷ []) (λ is2.
    lands_as ! refl refl ((((result_laws (option.the_row F.row) refusal (option_laws F.row ref-laws) refusal_laws).lawful 𝓛).typed s (o ∷ []) is2).0) $
    returns ! (look_at ! 0 refl) $ free_all ! refl $
    -- [the result; the token; nothing; what none_if_missing says; the other tokens; what was lent]
    move ! (3 ∷ []) $ pick ! (λ ws2. split ! $ drop ! $ heard ! _ (λ same.
    move ! (4 ∷ []) $ pick ! (λ ws. split ! $ drop ! $ split ! $ move ! (1 ∷ []) $ heard ! _ (λ seen. move ! (4 ∷ []) $ split ! $ keep ! (2 ∷ 3 ∷ 4 ∷ 1 ∷ []) $
    let Put : Value → Value → Type 0 = λ n w. IfSome (lent s) (λ y. PutsAtPath (x.step i ∷ []) y w v.now n) in
    use1 𝓛 (‵ (LendsNamed v (name_of_ok r) Put (PutsNothing (x.step i ∷ []) v.now))) (so_weaken 𝓛 value value v.ghost_name (name_of_ok r) _ _ _ _
    (λ w n p at. subst (λ (q : O.Denot). IfSome (lent q) (λ y. PutsAtPath (x.step i ∷ []) y w v.now n)) (sym same) (missing_lent r (λ y. PutsAtPath (x.step i ∷ []) y w v.now n) (p (place_ok r at)))) (λ n p. on_no_place r _ p)) $
    rewrite ! 0 (λ (m : maybe.Option GName). ‵ (LendsNamed v m Put (PutsNothing (x.step i ∷ []) v.now))) (sym (ap lent_name same ∙ missing_name r)) refl $
    suffices ! _ (ends_at 𝓛 En stays c z o s (tt, (tt, (tt, tt))) (tt, (tt, (tt, tt)))) $
    -- [what is lent; the result; the first token; the second and nothing]
    move ! (2 ∷ 3 ∷ []) $ join ! $ nothing ! $ nothing ! $ join ! $ nothing ! $ join ! $ nothing ! $ join ! $ move ! (1 ∷ 0 ∷ 3 ∷ 2 ∷ []) $ group ! 3 $ frame ! $ frame ! $ use0 𝓛 (raw (fact 𝓤 (IfErr s (λ e. e ≡ no_memory)))) (fact_i 𝓤 _ (emp 𝓤) (subst (λ (s : O.Denot). IfErr s (λ e. e ≡ no_memory)) (sym same) (missing_only (x.step i ∷ []) (tree_of v.now) r seen))) $ use0 𝓛 (raw (fact 𝓤 (IfOk s (λ o. option_map (λ (y : MutBor Value). tree_of y.now) o ≡ child (x.step i) (tree_of v.now))))) (fact_i 𝓤 _ (emp 𝓤) (subst (λ (s : O.Denot). IfOk s (λ o. option_map (λ (y : MutBor Value). tree_of y.now) o ≡ child (x.step i) (tree_of v.now))) (sym same) (subst (λ (o : Option Tree). IfOk (missing_as_none r) (λ p. option_map (λ (y : MutBor Value). tree_of y.now) p ≡ o)) (one_step (x.step i) (tree_of v.now)) (missing_leads (x.step i ∷ []) (tree_of v.now) r seen)))) $ done !)))))))))))))
