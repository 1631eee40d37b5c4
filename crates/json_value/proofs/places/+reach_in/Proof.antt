use Rattle.json_value.proofs.HandProofs.{subst, sym, ◌∙◌, ◌≡◌, ℕ, ◌<◌, List, [], ◌∷◌, refl, ap, lit<, id⊢, emp, ftrue, named, Val, fact, fact_i, tables, full_share, ‵, raw, ◌⊛◌, some, later, at_ret, ◌$◌, ◌∵◌, !, qed, done, drop, use0, use1, use2, split, join, pick, await, suffices, group, frame, rewrite, enter, of_opd, lit, addr, stop, fld, no_more, and_then, first, branches, skips, exec, returns, returns_within, alloc_all, pass_all, free_all, look_at, get, get_in, get_tag, through, sets, sets_last, lands_as, lands_last, env, whole, agg, vrt, in_variant, no, yes, move, keep, peeks, shows, flft, heard, bool, mut_vals, mut_Tells, MutRef, MutBor, plain, nothing, only, calls_at, lasts, Lasts, triple_of, Stays, walk_of, says, stay_dropped, Goes-spent_ref, Goes-dropped, ends_at, framed, Some, Ok, Err}
use mathlib.Core.List.{not-mem-nil}
use mathlib.Core.Bool.{Bool}
use mathlib.Core.Logic.{inl, inr}
use contract.Lifetimes.{Lfts}
use contract.Running.{Running, MachineTables, tables_of}
use seplogic.Ra.Ura.{Ura}
use types.Logic.{Logic}
use prog.Model.{Model}
use prog.Wired.{Wired}
use base.Logic.{SProp, ent}
use base.Fml.{Lft}
use denote.Triple.Statement.{Contract}
use Rattle.std.specs.declared.alloc.Global.{Global}
use Rattle.json_io.specs.declared.error.Error.{Error}
use base.Fml.{Incl}
use lib.NonEmpty.{one}
use lib.WfN.{lt-wf_rel}
use prog.Wp.{WpFn, Env}
use sound.WpLaws.{WpFn-mono}
use types.Kit.{given, learn, Sq, runs, Post as PostOf}
use types.ByLocal.{holding, forget_but}
use types.Run.{switches_on}
use denote.RattleType.{RattleType}
use denote.Ref.{Bor}
use denote.Slice.{ShrSlice, shr_slice_vals, shr_slice_Tells, shr_slice_Lawful, shr_slice_copy}
use denote.Plain.{bool_Tells}
use denote.Signature.{shr_slice_of}
use denote.Struct.Field.{mut_ref_field}
use denote.Struct.Laws.{mut_ref_laws, copy}
use denote.Param.Laws.{of_field, row_shared}
use denote.Param.Shared.{mut_ref_shared}
use denote.Triple.Call.{calls_from_last}
use denote.Triple.Cycle.{Stated, measured, at_on, mutual_elim}
use denote.Triple.Walked.{walked_at, walk_meets_at}
use Rattle.json_value.proofs.BodyParts.{after, head, arm_body, then_runs}
use Rattle.std.specs.Prelude.{length}
use Rattle.std.specs.Prelude as prelude
use Rattle.std.specs.Bool.{OnTrue, OnFalse}
use Rattle.std.specs.contracts.alloc.Global.{the_row as global, the_type as global_type}
use Rattle.std.specs.contracts.result.Result as result
use Rattle.std.proofs.alloc.Global.TheLaws.{the_row_laws as global_laws, the_told as global_told, the_copy as global_copy}
use Rattle.std.proofs.result.Result.TheLaws.{the_row_laws as result_laws}
use Rattle.json_value.specs.Denotes.{tree_of}
use Rattle.json_value.specs.Edits.{step_of, steps_of}
use Rattle.json_value.specs.Steps.{child}
use Rattle.json_value.specs.Lending.{LendsAlong, LendsStep, LeadsTo, first_node, name_of_ok}
use Rattle.json_value.specs.declared.value.Value.{Value}
use Rattle.json_value.specs.declared.path.PointerNode.{PointerNode}
use Rattle.json_value.specs.contracts.value.Value.{the_row as value}
use Rattle.json_io.specs.contracts.error.Error.{the_row as refusal}
use Rattle.json_value.specs.contracts.path.PointerNode.{the_row as node}
use Rattle.json_io.proofs.error.Error.TheLaws.{the_row_laws as refusal_laws, the_told as refusal_told}
use Rattle.json_value.proofs.path.PointerNode.TheLaws.{the_row_laws as node_laws}
use Rattle.json_value.proofs.value.Value.TheLaws.{the_row_laws as value_laws}
use Rattle.json_value.proofs.Results.{ok_val, err_val, ok_out, err_out, ok_in, err_in}
use Rattle.json_value.proofs.LenderRelations.{so_then, so_none, so_self}
use Rattle.json_value.proofs.LentNames.{no_place, each_ok}
use Rattle.json_value.proofs.LentPaths.{fewer, put_end, seen_end, on_true, on_false, which}
use Rattle.json_value.proofs.MissingPlaces.{one_step, leads_along, leads_first}
use Rattle.json_value.proofs.EditedValues.{exchanged_here, puts_along}
use Rattle.json_value.proofs.RefusedCalls.{nothing_along, nothing_first}
use Rattle.json_value.specs.contracts.places.reach_in as f
use Rattle.json_value.proofs.places.+reach_in.{statement}
use Rattle.json_value.proofs.places.+reach_in.Code as code
use Rattle.json_value.proofs.places.+reach_in.Lts-reach_in.{arg-1-0, laws-1-0}
use Rattle.json_value.specs.contracts.places.at_end as e
use Rattle.json_value.proofs.places.at_end.Met as end-met
use Rattle.json_value.specs.contracts.places.first_place as g
use Rattle.json_value.proofs.places.first_place.Met as first-met
use Rattle.json_value.specs.contracts.container_mut.ValueContainerMut.TheImpl as impl
use Rattle.json_value.proofs.container_mut.ValueContainerMut.TheImpl.Met as impl-met
use Rattle.json_value.specs.contracts.places.untaken as h
use Rattle.json_value.proofs.places.untaken.Met as rest-met

abbrev stayed : Stays f.ended.signature.params f.ended.kept
stayed = (stay_dropped _ no, (stay_dropped _ yes, (stay_dropped _ yes, tt)))

module _ {M : Type 1} (𝓤 : Ura M) (𝓛 : Logic 𝓤) (𝓜 : Model 𝓤 𝓛.H) (𝓡 : Running 𝓤 𝓛.H 𝓜) (wired : Wired 𝓡.env code.code) where
  abbrev Me : Contract 𝓤
  Me = triple_of 𝓛 f.signature (f.spec 𝓛 𝓜.mem 𝓡.returns)

  abbrev 𝓣 : MachineTables 𝓤 𝓛.H 𝓜
  𝓣 = tables 𝓤 𝓛.H 𝓜 𝓡 𝓡.env

  abbrev fn : mir.Syntax.Fn
  fn = code.reach_in-function

  module _ (y : Me.Ghost) where
    abbrev v : MutBor Value
    v = y.0.3.0

    abbrev alloc : Global
    alloc = y.0.3.1.0

    abbrev path : Bor (List PointerNode)
    path = y.0.3.1.1.0

    abbrev κ : Lft
    κ = y.0.0.0

    abbrev κ' : Lft
    κ' = y.0.0.1.0

    abbrev T : RattleType
    T = MutRef (named 0) κ value

    abbrev P : RattleType
    P = ShrSlice (named 1) κ' node

    abbrev R : RattleType
    R = result.the_row T refusal

    abbrev av : List Val
    av = global_told.val alloc ∷ []

    abbrev pv : List Val
    pv = shr_slice_vals path

    abbrev y0 : (walk_of 𝓛 f.ended stayed (f.clauses 𝓛 𝓜.mem 𝓡.returns)).Ghost
    y0 = ((y.0.0, y.0.1, y.0.2, y.0.3, (mut_vals v, (av, (pv, tt)))), tt)

    abbrev Post : Val → SProp 𝓤
    Post = (walk_of 𝓛 f.ended stayed (f.clauses 𝓛 𝓜.mem 𝓡.returns)).post y0

    abbrev ok : MutBor Value → Val
    ok = ok_val κ value refusal refusal_told

    abbrev err : Error → Val
    err = err_val κ value refusal refusal_told

    fits_result : (r : R.Denot) (u : Val) → denote.Laws.Is R r (u ∷ []) → denote.Laws.Typed R.mir (u ∷ [])
    fits_result r u is =
        let F = mut_ref_field (record { mir = named 0; lft = κ }) value tt in
        let ref-laws = of_field F (mut_ref_laws (record { mir = named 0; lft = κ }) value tt) refl (mut_ref_shared (record { mir = named 0; lft = κ }) value tt (row_shared value value_laws)) in
        ((result_laws F.row refusal ref-laws refusal_laws).lawful 𝓛).typed r (u ∷ []) is

    module _ (l : ℕ → ℕ) where
      abbrev En : Env 𝓤 𝓛.H
      En = env fn.locals l

      abbrev Then : PostOf 𝓤 𝓛.H
      Then = then_runs 𝓤 𝓛.H 𝓣.C 𝓣.Λ En (after 5 fn.body) (at_ret En Post)

      -- nothing was found: the refusal is handed on
      refuses : (x : Error) → 0 < length path.now → LeadsTo (steps_of path.now) (tree_of v.now) (Err x) → Sq 𝓛 (‵ (R.own_val (Err x) (err x ∷ [])) ∷ ‵ (LendsStep v (step_of (first_node path.now)) (Err x)) ∷ ‵ (flft κ y.0.1.0) ∷ ‵ (flft κ' y.0.1.1.0) ∷ holding 𝓛 En ((8, err x) ∷ []))
          (runs 𝓣.C 𝓣.Λ En (arm_body 1 (head (after 4 fn.body))) Then)
      refuses x more why =
          move ! (0 ∷ []) $ peeks ! R _ (shows 𝓛 R) (Err x) (err x ∷ []) (λ is_r. let fits = (fits_result (Err x) (err x) is_r).0 in
          use1 𝓛 (given (err x ∷ [] ≡ err x ∷ []) (‵ (refusal.own_val x (refusal_told.val x ∷ [])))) (err_out κ value refusal refusal_told 𝓛 x (err x ∷ [])) $ learn ! (λ _.
          peeks ! refusal _ (shows 𝓛 refusal) x (refusal_told.val x ∷ []) (λ is_e. let fits_e = ((refusal_laws.lawful 𝓛).typed x (refusal_told.val x ∷ []) is_e).0 in
          use1 𝓛 (‵ (R.own_val (Err x) (err x ∷ []))) (err_in κ value refusal refusal_told 𝓛 x) $
          sets ! (of_opd ! (get_in ! (vrt ! refl (fld ! refl (stop !))) (in_variant ! 1 0 refl refl (whole !)))) refl fits_e $
          sets_last ! (agg ! (and_then ! (lit ! tt) (and_then ! (get ! refl) (no_more !)))) refl fits $
          exec ! 𝓣.C 𝓣.Λ En (after 5 fn.body) (at_ret En Post) $
          sets ! (of_opd ! (get ! refl)) refl fits $ returns ! (look_at ! 0 refl) $ free_all ! refl $
          move ! (1 ∷ 0 ∷ 2 ∷ 3 ∷ []) $
          use1 𝓛 (‵ (LendsAlong {E = refusal.Denot} v (steps_of path.now) (Err x))) (so_none 𝓛 value value value v.ghost_name _ _ _ _ (λ w n p at. absurd at) (λ n p. nothing_first path.now v.now n more p)) $
          suffices ! _ (ends_at 𝓛 f.ended stayed (f.clauses 𝓛 𝓜.mem 𝓡.returns) y0 (err x) (Err x) (tt, (tt, (tt, tt))) (tt, (tt, (tt, tt)))) $
          nothing ! $ move ! (4 ∷ 0 ∷ []) $ join ! $ move ! (3 ∷ 0 ∷ []) $ join ! $ nothing ! $ nothing ! $ join ! $ nothing ! $ join ! $ nothing ! $ join ! $
          move ! (1 ∷ 0 ∷ 3 ∷ 2 ∷ []) $ group ! 3 $ frame ! $ says ! why $ done !)))

      -- the child was found: the rest of the path goes on from it
      goes_on : (x : MutBor Value) → 0 < length path.now → child (step_of (first_node path.now)) (tree_of v.now) ≡ Some (tree_of x.now)
          → ((z : Me.Ghost) → length z.0.3.1.1.0.now < length path.now → ent 𝓤 (Me.pre z) (𝓣.C f.Key.name (Me.args z) (Me.post z)))
          → Sq 𝓛 (‵ (T.own_val x (mut_vals x)) ∷ ‵ (LendsStep {E = refusal.Denot} v (step_of (first_node path.now)) (Ok x)) ∷ ‵ (flft κ y.0.1.0) ∷ ‵ (flft κ' y.0.1.1.0) ∷ ‵ (global.own_val alloc av) ∷ ‵ (P.own_val path pv) ∷ holding 𝓛 En ((2, only av) ∷ (3, only pv) ∷ (8, ok x) ∷ []))
          (runs 𝓣.C 𝓣.Λ En (arm_body 0 (head (after 4 fn.body))) Then)
      goes_on x more here below =
          sets ! (of_opd ! (get_in ! (vrt ! refl (fld ! refl (stop !))) (in_variant ! 0 0 refl refl (whole !)))) refl (tt, tt) $
          sets ! (addr ! (through ! refl (stop !))) refl (tt, tt) $
          -- [x; what was lent; the two tokens; alloc; path]
          let G3 = triple_of 𝓛 h.signature (h.spec 𝓛 𝓜.mem 𝓡.returns) in
          let z3 : G3.Ghost = (((κ', tt), (y.0.1.1.0, tt), tt, (path, tt), (pv, tt)), tt) in
          nothing ! $ move ! (6 ∷ 0 ∷ []) $ join ! $ nothing ! $ move ! (5 ∷ 0 ∷ []) $ join ! $ join ! $
          use0 𝓛 (raw (fact 𝓤 (0 < length path.now))) (fact_i 𝓤 _ (emp 𝓤) more) $ move ! (1 ∷ 0 ∷ []) $ use2 𝓛 (raw (G3.pre z3)) (id⊢ 𝓤 _) $
          calls_at ! (framed 𝓤 𝓛.H 𝓜 𝓣) G3 (rest-met.met 𝓤 𝓛 𝓜 𝓡 (code.calls-json_value::places::untaken 𝓡.env wired)) z3 (and_then ! (get ! refl) (no_more !)) (λ k.
          use1 𝓛 (later (some (λ (rest : Bor (List PointerNode)). ((‵ (flft κ' y.0.1.1.0) ⊛ ‵ ftrue) ⊛ ‵ (P.own_val rest (k ∷ []))) ⊛ some (λ (ws : Lasts h.ended (κ', tt) (path, tt)). ‵ (lasts h.ended (κ', tt) (path, tt) ws) ⊛ raw (fact 𝓤 (rest.now ≡ prelude.drop 1 path.now)))))) (id⊢ 𝓤 _) $
          await ! tt $ pick ! (λ rest. split ! $ split ! $ split ! $ move ! (3 ∷ []) $ pick ! (λ ws3. split ! $ drop ! $ heard ! _ (λ shorter.
          move ! (2 ∷ []) $ peeks ! P _ (shows 𝓛 P) rest (k ∷ []) (λ is_rest.
          lands_as ! refl refl (((shr_slice_Lawful 𝓛 (named 1) κ' node).typed rest (k ∷ []) is_rest).0) $
          -- [rest; the path's token; nothing; x; what was lent; the token of v; alloc]
          nothing ! $ move ! (1 ∷ 0 ∷ []) $ join ! $ move ! (6 ∷ 0 ∷ []) $ join ! $ move ! (3 ∷ 0 ∷ []) $ join ! $ move ! (1 ∷ 2 ∷ []) $ join ! $ move ! (3 ∷ 0 ∷ []) $ join ! $ join ! $ nothing ! $ move ! (1 ∷ 0 ∷ []) $
          let z4 : Me.Ghost = ((y.0.0, y.0.1, y.0.2, (x, (alloc, (rest, tt))), (mut_vals x, (av, ((k ∷ []), tt)))), tt) in
          use2 𝓛 (raw (Me.pre z4)) (id⊢ 𝓤 _) $
          calls_from_last ! (framed 𝓤 𝓛.H 𝓜 𝓣) (raw (Me.pre z4)) (Me.args z4) (Me.post z4) (below z4 (fewer path.now rest.now more shorter))
          (and_then ! (get ! refl) (and_then ! (get ! refl) (and_then ! (get ! refl) (no_more !)))) (λ i.
          use1 𝓛 (later (some (λ (s : R.Denot). ((‵ (flft κ y.0.1.0) ⊛ ‵ (flft κ' y.0.1.1.0) ⊛ ‵ ftrue) ⊛ ‵ (R.own_val s (i ∷ []))) ⊛ some (λ (ws : Lasts f.ended y.0.0 (x, (alloc, (rest, tt)))). ‵ (lasts f.ended y.0.0 (x, (alloc, (rest, tt))) ws) ⊛ (‵ (LendsAlong x (steps_of rest.now) s) ⊛ raw (fact 𝓤 (LeadsTo (steps_of rest.now) (tree_of x.now) s))))))) (id⊢ 𝓤 _) $
          await ! tt $ pick ! (λ s. split ! $ split ! $ move ! (1 ∷ []) $ peeks ! R _ (shows 𝓛 R) s (i ∷ []) (λ is_s. let fits = (fits_result s i is_s).0 in
          lands_last ! refl fits $ exec ! 𝓣.C 𝓣.Λ En (after 5 fn.body) (at_ret En Post) $
          sets ! (of_opd ! (get ! refl)) refl fits $ returns ! (look_at ! 0 refl) $ free_all ! refl $
          -- [the result; the tokens; what it lends; what x lends]
          move ! (2 ∷ []) $ pick ! (λ ws4. split ! $ drop ! $ split ! $ move ! (1 ∷ []) $ heard ! _ (λ seen.
          move ! (3 ∷ 0 ∷ []) $ use2 𝓛 (‵ (LendsAlong v (steps_of path.now) s)) (so_then 𝓛 value value value v.ghost_name x.ghost_name _ _ (name_of_ok s) _ _ _ _
          (λ w z n p q at. each_ok s (λ y h. puts_along path.now rest.now x.now z y.now w v.now n more shorter here (p refl) h) (q at))
          (λ z n p q. no_place s (nothing_along path.now rest.now x.now z v.now n more shorter here (p refl)) q)) $
          suffices ! _ (ends_at 𝓛 f.ended stayed (f.clauses 𝓛 𝓜.mem 𝓡.returns) y0 i s (tt, (tt, (tt, tt))) (tt, (tt, (tt, tt)))) $
          nothing ! $ nothing ! $ join ! $ nothing ! $ join ! $ nothing ! $ join ! $ move ! (3 ∷ 0 ∷ 2 ∷ 1 ∷ []) $ group ! 3 $ frame ! $
          says ! (leads_along path.now rest.now (tree_of v.now) (tree_of x.now) more shorter here s seen) $ done !))))))))))

pub +reach_in_spec : {M : Type 1} → statement M
unfolding tables_of
+reach_in_spec {M} 𝓤 𝓛 𝓜 𝓡 wired =
    let 𝓣 = tables 𝓤 𝓛.H 𝓜 𝓡 𝓡.env in
    let c = f.clauses 𝓛 𝓜.mem 𝓡.returns in
    let Me = triple_of 𝓛 f.signature (f.spec 𝓛 𝓜.mem 𝓡.returns) in
    let μ : Me.Ghost → ℕ = λ y. length y.0.3.1.1.0.now in
    let stated : Stated 𝓤 = record { signature = f.signature; run = 𝓡.run (𝓡.env f.Key.name); spec = f.spec 𝓛 𝓜.mem 𝓡.returns } in
    mutual_elim 𝓛 (one stated) ◌<◌ lt-wf_rel.wf (measured 𝓛 stated μ) (λ t below.
    at_on 𝓛 f.signature (f.spec 𝓛 𝓜.mem 𝓡.returns) (WpFn 𝓤 𝓛.H 𝓣.C 𝓣.Λ code.reach_in-function) (𝓡.run (𝓡.env f.Key.name)) (code.reach_in-unfolded 𝓤 𝓛.H 𝓜 𝓡 wired) μ t (λ y is_t.
    walk_meets_at 𝓛 f.ended stayed (Goes-spent_ref 𝓛 2 (0 ∷ []) tt (plain (λ _. value)), (Goes-dropped 𝓛 2 (plain (λ _. global)) yes (λ κs x w. refl), (Goes-dropped 𝓛 2 (shr_slice_of (1 ∷ []) tt (plain (λ _. node))) yes (λ κs x w. refl), tt)))
    c (WpFn 𝓤 𝓛.H 𝓣.C 𝓣.Λ code.reach_in-function) (WpFn-mono 𝓤 𝓛.H 𝓛.laws (tables_of 𝓤 𝓛.H 𝓜 𝓣) code.reach_in-function) y
    (walked_at 𝓛 f.ended stayed c (WpFn 𝓤 𝓛.H 𝓣.C 𝓣.Λ code.reach_in-function) y (mut_vals, ((λ x. global_told.val x ∷ []), (shr_slice_vals, tt))) (mut_Tells (named 0) y.0.0.0 value, (global_told.tells, (shr_slice_Tells (named 1) y.0.0.1.0 node, tt)))
    (λ are. let κs = y.0.0 in let qs = y.0.1 in let a = y.0.3 in
    let v = a.0 in let alloc = a.1.0 in let path = a.1.1.0 in
    let T = MutRef (named 0) κs.0 value in let P = ShrSlice (named 1) κs.1.0 node in
    let pv : List Val = shr_slice_vals path in let av : List Val = global_told.val alloc ∷ [] in
    let path_copy = shr_slice_copy 𝓛 (named 1) κs.1.0 node node_laws.shr_laws in
    let y0 : (walk_of 𝓛 f.ended stayed c).Ghost = ((κs, qs, y.0.2, a, (mut_vals v, (av, (pv, tt)))), tt) in
    let Post = (walk_of 𝓛 f.ended stayed c).post y0 in
    qed 𝓛 (((‵ (flft κs.0 qs.0) ⊛ ‵ (flft κs.1.0 qs.1.0) ⊛ ‵ ftrue) ⊛ ‵ (T.own_val v (mut_vals v)) ⊛ ‵ (global.own_val alloc av) ⊛ ‵ (P.own_val path pv) ⊛ ‵ ftrue) ∷ ‵ ftrue ∷ []) ∵
    split ! $ split ! $ move ! (1 ∷ []) $ split ! $ move ! (3 ∷ []) $ split ! $ move ! (1 ∷ []) $ split ! $ move ! (1 ∷ []) $ split ! $ keep ! (3 ∷ 6 ∷ 4 ∷ 2 ∷ 0 ∷ []) $
    enter ! _ _ _ _ _ $ alloc_all ! (λ l. pass_all ! refl ((tt, tt), (((global_laws.lawful 𝓛).typed alloc _ are.1.0).0, (((shr_slice_Lawful 𝓛 (named 1) κs.1.0 node).typed path _ are.1.1.0).0, tt))) $
    -- WALK
    let En : Env 𝓤 𝓛.H = env (code.reach_in-function).locals l in
    let alloc_copy = copy global_type global_copy 𝓛 in
    let fm = framed 𝓤 𝓛.H 𝓜 𝓣 in
    -- [v; the two tokens; alloc; path]
    move ! (4 ∷ []) $ use1 𝓛 (‵ (P.own_val path pv) ⊛ ‵ (P.own_val path pv)) (path_copy.twice path pv) $ split ! $
    let G1 = triple_of 𝓛 e.signature (e.spec 𝓛 𝓜.mem 𝓡.returns) in
    let z1 : G1.Ghost = (((κs.1.0, tt), (qs.1.0, tt), tt, (path, tt), (pv, tt)), tt) in
    nothing ! $ move ! (1 ∷ 0 ∷ []) $ join ! $ nothing ! $ move ! (5 ∷ 0 ∷ []) $ join ! $ join ! $ nothing ! $ move ! (1 ∷ 0 ∷ []) $ use2 𝓛 (raw (G1.pre z1)) (id⊢ 𝓤 _) $
    calls_at ! fm G1 (end-met.met 𝓤 𝓛 𝓜 𝓡 (code.calls-json_value::places::at_end 𝓡.env wired)) z1 (and_then ! (get ! refl) (no_more !)) (λ u.
    use1 𝓛 (later (some (λ (b : Bool). ((‵ (flft κs.1.0 qs.1.0) ⊛ ‵ ftrue) ⊛ ‵ (bool.own_val b (u ∷ []))) ⊛ some (λ (ws : Lasts e.ended (κs.1.0, tt) (path, tt)). ‵ (lasts e.ended (κs.1.0, tt) (path, tt) ws) ⊛ (raw (fact 𝓤 (OnTrue b (path.now ≡ []))) ⊛ raw (fact 𝓤 (OnFalse b (0 < length path.now)))))))) (id⊢ 𝓤 _) $
    await ! tt $ pick ! (λ b. split ! $ split ! $ split ! $ move ! (2 ∷ []) $ peeks ! bool _ (shows 𝓛 bool) b (u ∷ []) (λ is. drop ! $
    lands_as ! (ap only (bool_Tells b (u ∷ []) is)) refl (tt, tt) $
    move ! (2 ∷ []) $ pick ! (λ ws. split ! $ drop ! $ split ! $ heard ! _ (λ ended. heard ! _ (λ longer.
    -- [the path's token; nothing; path; v; the token of v; alloc]
    first ! $ branches ! (get ! refl)
    (λ yes.
    let done_at : path.now ≡ [] = on_true b _ yes ended in
    sets ! (addr ! (through ! refl (stop !))) refl (tt, tt) $
    sets ! (agg ! (and_then ! (lit ! tt) (and_then ! (get ! refl) (no_more !)))) refl (tt, (record { fits = lit< tt }, (tt, tt))) $
    returns_within ! Post refl (look_at ! 0 refl) $ free_all ! refl $ keep ! (3 ∷ 4 ∷ 0 ∷ []) $
    use1 𝓛 (‵ ((result.the_row T refusal).own_val (Ok v) (ok_val κs.0 value refusal refusal_told v ∷ []))) (ok_in κs.0 value refusal refusal_told 𝓛 v) $
    suffices ! _ (ends_at 𝓛 f.ended stayed c y0 (ok_val κs.0 value refusal refusal_told v) (Ok v) (tt, (tt, (tt, tt))) (tt, (tt, (tt, tt)))) $
    nothing ! $ move ! (3 ∷ 0 ∷ []) $ join ! $ move ! (2 ∷ 0 ∷ []) $ join ! $ nothing ! $ nothing ! $ join ! $ nothing ! $ join ! $ nothing ! $ join ! $
    use0 𝓛 (‵ (LendsAlong {E = refusal.Denot} v (steps_of path.now) (Ok v))) (so_self 𝓛 value v.ghost_name _ _ v.now (λ w _. (put_end path.now (tree_of v.now) (tree_of w) done_at, exchanged_here path.now v.now w done_at)) tt) $
    move ! (2 ∷ 1 ∷ 3 ∷ 0 ∷ []) $ group ! 3 $ frame ! $ says ! (seen_end path.now (tree_of v.now) done_at) $ done !)
    (λ no. skips ! $ exec ! 𝓣.C 𝓣.Λ En (after 2 (code.reach_in-function).body) (at_ret En Post) $
    let more : 0 < length path.now = on_false b _ no longer in
    sets ! (addr ! (through ! refl (stop !))) refl (tt, tt) $
    -- [the path's token; nothing; path; v; the token of v; alloc]
    move ! (2 ∷ []) $ use1 𝓛 (‵ (P.own_val path pv) ⊛ ‵ (P.own_val path pv)) (path_copy.twice path pv) $ split ! $
    move ! (6 ∷ []) $ use1 𝓛 (‵ (global.own_val alloc av) ⊛ ‵ (global.own_val alloc av)) (alloc_copy.twice alloc av) $ split ! $
    move ! (2 ∷ 5 ∷ []) $ join ! $ move ! (1 ∷ 0 ∷ []) $ join ! $ move ! (4 ∷ 0 ∷ []) $ join ! $
    nothing ! $ use0 𝓛 (‵ (flft [] full_share)) (𝓛.lfts.lft-nil full_share) $ join ! $ move ! (4 ∷ 0 ∷ []) $ join ! $ move ! (4 ∷ 0 ∷ []) $ join ! $ join ! $
    use0 𝓛 (raw (fact 𝓤 (0 < length path.now))) (fact_i 𝓤 _ (emp 𝓤) more) $ use0 𝓛 (raw (fact 𝓤 (Incl [] value.lives))) (fact_i 𝓤 (Incl [] value.lives) (emp 𝓤) (λ n m. m)) $ join ! $ move ! (1 ∷ 0 ∷ []) $
    let κs3 : Lfts 3 = (κs.0, (κs.1.0, ([], tt))) in
    let S : RattleType = arg-1-0 κs3 in
    let G2 = triple_of 𝓛 (g.signature S) (g.spec S impl.ghosts impl.dict 𝓛 𝓜.mem 𝓡.returns) in
    let z2 : G2.Ghost = ((κs3, (qs.0, (qs.1.0, (full_share, tt))), ((λ n m. absurd (not-mem-nil m)), tt), a, (mut_vals v, (av, (pv, tt)))), tt) in
    use2 𝓛 (raw (G2.pre z2)) (id⊢ 𝓤 _) $
    calls_at ! fm G2 (first-met.met 𝓤 𝓛 𝓜 𝓡 (code.calls-json_value::places::first_place 𝓡.env wired) S (laws-1-0 κs3) impl.ghosts impl.dict (impl-met.passed 𝓡.env (code.calls-json_value::container_mut::ValueContainerMut::list 𝓡.env wired) (code.calls-json_value::container_mut::ValueContainerMut::pairs 𝓡.env wired) (code.calls-json_value::container_mut::ValueContainerMut::pairs_with 𝓡.env wired) M 𝓤 𝓛 𝓜 𝓡)) z2
    (and_then ! (get ! refl) (and_then ! (get ! refl) (and_then ! (get ! refl) (no_more !)))) (λ o.
    let F = mut_ref_field (record { mir = named 0; lft = κs.0 }) value tt in
    let ref-laws = of_field F (mut_ref_laws (record { mir = named 0; lft = κs.0 }) value tt) refl (mut_ref_shared (record { mir = named 0; lft = κs.0 }) value tt (row_shared value value_laws)) in
    let R = result.the_row T refusal in
    let typed = ((result_laws F.row refusal ref-laws refusal_laws).lawful 𝓛).typed in
    let step = step_of (first_node path.now) in
    use1 𝓛 (later (some (λ (r : R.Denot). ((‵ (flft κs.0 qs.0) ⊛ ‵ (flft κs.1.0 qs.1.0) ⊛ ‵ (flft [] full_share) ⊛ ‵ ftrue) ⊛ ‵ (R.own_val r (o ∷ []))) ⊛ some (λ (ws : Lasts (g.ended S impl.ghosts impl.dict) κs3 a). ‵ (lasts (g.ended S impl.ghosts impl.dict) κs3 a ws) ⊛ (‵ (LendsStep v step r) ⊛ raw (fact 𝓤 (LeadsTo (step ∷ []) (tree_of v.now) r))))))) (id⊢ 𝓤 _) $
    await ! tt $ pick ! (λ r. split ! $ split ! $ split ! $ move ! (3 ∷ []) $ pick ! (λ ws2. split ! $ drop ! $ split ! $ move ! (1 ∷ []) $ heard ! _ (λ found.
    move ! (2 ∷ []) $ split ! $ move ! (4 ∷ 2 ∷ 3 ∷ 0 ∷ 5 ∷ 6 ∷ 1 ∷ []) $
    -- [r; what was lent; the two tokens; alloc; path; the longest lifetime's]
    elim (which r) [
      | inl p ↦
          let x = p.0 in
          rewrite ! 0 (λ (r : R.Denot). ‵ (R.own_val r (o ∷ []))) p.1 refl $ rewrite ! 1 (λ (r : R.Denot). ‵ (LendsStep v step r)) p.1 refl $
          let here : child step (tree_of v.now) ≡ Some (tree_of x.now) = sym (one_step step (tree_of v.now)) ∙ subst (λ (r : R.Denot). LeadsTo (step ∷ []) (tree_of v.now) r) p.1 found in
          use1 𝓛 (given (o ∷ [] ≡ ok_val κs.0 value refusal refusal_told x ∷ []) (‵ (T.own_val x (mut_vals x)))) (ok_out κs.0 value refusal refusal_told 𝓛 x (o ∷ [])) $ learn ! (λ is_x.
          lands_as ! (ap only is_x) refl (tt, (record { fits = lit< tt }, (tt, tt))) $
          first ! $ switches_on ! (get_tag ! (vrt ! refl (fld ! refl (stop !))) (whole !)) $ exec ! 𝓣.C 𝓣.Λ En (arm_body 0 (head (after 4 (code.reach_in-function).body))) (Then 𝓤 𝓛 𝓜 𝓡 wired y l) $
          move ! (6 ∷ []) $ drop ! $ forget_but ! En (2 ∷ 3 ∷ 8 ∷ []) refl $
          goes_on 𝓤 𝓛 𝓜 𝓡 wired y l x more here (λ z lt. below (μ z) (subst (λ (s : ℕ). μ z < s) is_t lt) z refl))
      | inr p ↦
          let x = p.0 in
          let why : LeadsTo (steps_of path.now) (tree_of v.now) (Err x) = leads_first path.now (tree_of v.now) x more (subst (λ (r : R.Denot). LeadsTo (step ∷ []) (tree_of v.now) r) p.1 found) in
          rewrite ! 0 (λ (r : R.Denot). ‵ (R.own_val r (o ∷ []))) p.1 refl $ rewrite ! 1 (λ (r : R.Denot). ‵ (LendsStep v step r)) p.1 refl $
          use1 𝓛 (given (o ∷ [] ≡ err_val κs.0 value refusal refusal_told x ∷ []) (‵ (refusal.own_val x (refusal_told.val x ∷ [])))) (err_out κs.0 value refusal refusal_told 𝓛 x (o ∷ [])) $ learn ! (λ is_x.
          use1 𝓛 (‵ (R.own_val (Err x) (err_val κs.0 value refusal refusal_told x ∷ []))) (err_in κs.0 value refusal refusal_told 𝓛 x) $
          peeks ! R _ (shows 𝓛 R) (Err x) (err_val κs.0 value refusal refusal_told x ∷ []) (λ is_r.
          lands_as ! (ap only is_x) refl ((fits_result 𝓤 𝓛 𝓜 𝓡 wired y (Err x) (err_val κs.0 value refusal refusal_told x) is_r).0) $
          first ! $ switches_on ! (get_tag ! (vrt ! refl (fld ! refl (stop !))) (whole !)) $ exec ! 𝓣.C 𝓣.Λ En (arm_body 1 (head (after 4 (code.reach_in-function).body))) (Then 𝓤 𝓛 𝓜 𝓡 wired y l) $
          move ! (6 ∷ []) $ drop ! $ move ! (5 ∷ []) $ drop ! $ move ! (4 ∷ []) $ drop ! $ forget_but ! En (8 ∷ []) refl $
          refuses 𝓤 𝓛 𝓜 𝓡 wired y l x more why))
    ]))))))))))))))))
