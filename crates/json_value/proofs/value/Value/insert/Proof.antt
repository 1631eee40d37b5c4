use Rattle.json_value.proofs.HandProofs.{Val, subst, only, rewrite, ◌≡◌, [], ◌∷◌, refl, id⊢, emp, ftrue, named, fact, fact_i, tables, full_share, ‵, raw, ◌⊛◌, some, later, ◌$◌, ◌∵◌, !, qed, done, drop, use0, use1, use2, split, join, pick, await, suffices, group, enter, of_opd, addr, stop, no_more, and_then, returns, alloc_all, pass_all, free_all, look_at, get, through, sets, lands_as, no, yes, move, keep, peeks, shows, flft, mut_vals, mut_Tells, MutRef, plain, nothing, heard, calls_at, lasts, Lasts, triple_of, Stays, stay_dropped, Goes-spent_ref, Goes-dropped, ends_at, framed, fsplit}
use mathlib.Core.List.{List, not-mem-nil, ◌++◌}
use contract.Lifetimes.{Lfts}
use base.Fml.{Incl}
use denote.RattleType.{RattleType}
use denote.Laws.{Is}
use mir.Syntax.{w8}
use denote.Plain.{UInt}
use denote.Slice.{ShrSlice, shr_slice_vals, shr_slice_Tells, shr_slice_Lawful}
use denote.Such.{such_Tells, such_Lawful}
use denote.Text.{Str, StrRefOf, Utf8}
use prog.Wp.{WpFn}
use types.Kit.{regoal, prop}
use Rattle.std.proofs.raw_atomic.Walks.{proved_at}
use denote.Triple.Walked.{walk_of}
use Rattle.json_value.proofs.SingleValues.{one_of}
use denote.Struct.Field.{mut_ref_field}
use denote.Struct.Laws.{mut_ref_laws}
use denote.Param.Laws.{of_field, row_shared}
use denote.Param.Shared.{mut_ref_shared}
use Rattle.json_value.specs.contracts.value.Value.{the_row as value}
use Rattle.json_io.specs.contracts.error.Error.{the_row as refusal}
use Rattle.std.specs.contracts.alloc.Global.{the_row as global}
use Rattle.std.specs.contracts.result.Result as result
use Rattle.json_value.specs.Denotes.{tree_of}
use Rattle.json_value.specs.Lending.{UpsertsNothing}
use Rattle.json_value.specs.Touched.{UpsertsValue}
use Rattle.json_model.specs.Edit.{on_pairs, inserted}
use Rattle.json_doc.specs.Readings.{type_of}
use Rattle.json_doc.specs.declared.json_type.JsonType.TheVariants as kind
use Rattle.json_io.specs.Errors.{no_memory}
use Rattle.std.specs.Prelude.{IfOk, IfErr, Ok}
use Rattle.json_value.proofs.HandedOn.{gave, Goes-gave}
use Rattle.std.specs.Borrow.{LendsSoOk}
use Rattle.std.proofs.alloc.Global.TheLaws.{the_row_laws as global_laws, the_told as global_told}
use Rattle.std.proofs.result.Result.TheLaws.{the_row_laws as result_laws}
use Rattle.json_io.proofs.error.Error.TheLaws.{the_row_laws as refusal_laws}
use Rattle.json_value.proofs.value.Value.TheLaws.{the_row_laws as value_laws}
use Rattle.json_value.specs.contracts.value.Value.insert as f
use Rattle.json_value.proofs.value.Value.insert.Statement.{statement}
use Rattle.json_value.proofs.value.Value.insert.Code as code
use Rattle.json_value.proofs.value.Value.insert.Lts.{arg-0-0, laws-0-0}
use Rattle.json_value.specs.contracts.container_mut.insert_of as g
use Rattle.json_value.proofs.container_mut.insert_of.Met as first-met
use Rattle.json_value.specs.contracts.container_mut.ValueContainerMut.TheImpl as impl
use Rattle.json_value.proofs.container_mut.ValueContainerMut.TheImpl.Met as impl-met

abbrev stayed : Stays f.ended.signature.params f.ended.kept
stayed = (stay_dropped _ no, (stay_dropped _ yes, (stay_dropped _ yes, (gave _ yes, tt))))

pub insert_spec : {M : Type 1} → statement M
insert_spec {M} 𝓤 𝓛 𝓜 𝓡 wired =
    let H = 𝓛.H in let 𝓣 = tables 𝓤 H 𝓜 𝓡 𝓡.env in
    let c = f.clauses 𝓛 𝓜.mem 𝓡.returns in
    proved_at 𝓛 f.ended stayed c 𝓜 𝓡 (Goes-spent_ref 𝓛 2 (0 ∷ []) tt (plain (λ _. value)), (Goes-dropped 𝓛 2 (plain (λ _. global)) yes (λ κs x w. refl), (Goes-dropped 𝓛 2 (StrRefOf (1 ∷ []) tt) yes (λ κs x w. refl), (Goes-gave 𝓛 2 (plain (λ _. value)) yes, tt))))
    f.Key.name code.function (code.unfolded 𝓤 H 𝓜 𝓡 wired) (λ z are.
    let κs = z.0.0 in let qs = z.0.1 in let a = z.0.3 in let vss = z.0.4 in
    let v = a.0 in let alloc = a.1.0 in let key = a.1.1.0 in let new = a.1.1.1.0 in
    let T = MutRef (named 0) κs.0 value in let K = Str (named 1) κs.1.0 in
    let Post = (walk_of 𝓛 f.ended stayed c).post z in
    let lone = one_of vss.1.1.1.0 (value_laws.single new vss.1.1.1.0 are.1.1.1.0) in let w = lone.0 in
    let e1 : vss.0 ≡ mut_vals v = mut_Tells (named 0) κs.0 value v vss.0 are.0 in
    let e2 : vss.1.0 ≡ global_told.val alloc ∷ [] = global_told.tells alloc vss.1.0 are.1.0 in
    let e3 : vss.1.1.0 ≡ shr_slice_vals key = such_Tells (ShrSlice (named 1) κs.1.0 (UInt w8)) (λ x. Utf8 x.now) (λ x cs. (tt, tt)) shr_slice_vals (shr_slice_Tells (named 1) κs.1.0 (UInt w8)) key vss.1.1.0 are.1.1.0 in
    let is_key : Is K key (shr_slice_vals key) = subst (Is K key) e3 are.1.1.0 in
    let fits_key = ((such_Lawful (ShrSlice (named 1) κs.1.0 (UInt w8)) (λ x. Utf8 x.now) (λ x cs. (tt, tt)) 𝓛 (shr_slice_Lawful 𝓛 (named 1) κs.1.0 (UInt w8))).typed key (shr_slice_vals key) is_key).0 in
    let is_alloc : Is global alloc (global_told.val alloc ∷ []) = subst (Is global alloc) e2 are.1.0 in
    let is_new : Is value new (w ∷ []) = subst (Is value new) lone.1 are.1.1.1.0 in
    let fits_new = ((value_laws.lawful 𝓛).typed new (w ∷ []) is_new).0 in
    qed 𝓛 (((‵ (flft κs.0 qs.0) ⊛ ‵ (flft κs.1.0 qs.1.0) ⊛ ‵ ftrue) ⊛ ‵ (T.own_val v vss.0) ⊛ ‵ (global.own_val alloc vss.1.0) ⊛ ‵ (K.own_val key vss.1.1.0) ⊛ ‵ (value.own_val new vss.1.1.1.0) ⊛ ‵ ftrue) ∷ raw (fact 𝓤 (type_of (tree_of v.now) ≡ kind.Object)) ∷ []) ∵
    move ! (1 ∷ []) $ heard ! _ (λ kind_is. split ! $ split ! $ move ! (1 ∷ []) $ split ! $ move ! (3 ∷ []) $ split ! $ move ! (1 ∷ []) $ split ! $ move ! (1 ∷ []) $ split ! $ move ! (1 ∷ []) $ split ! $
    -- [the value; nothing; the key; alloc; v; the second token; nothing; the first token]
    rewrite ! 0 (λ (us : List Val). ‵ (value.own_val new us)) lone.1 refl $ rewrite ! 2 (λ (us : List Val). ‵ (K.own_val key us)) e3 refl $ rewrite ! 3 (λ (us : List Val). ‵ (global.own_val alloc us)) e2 refl $ rewrite ! 4 (λ (us : List Val). ‵ (T.own_val v us)) e1 refl $
    keep ! (4 ∷ 3 ∷ 2 ∷ 0 ∷ 7 ∷ 5 ∷ []) $
    regoal ! (λ (us : List Val). prop (WpFn 𝓤 H 𝓣.C 𝓣.Λ code.function us Post)) (λ j. e1 j ++ (e2 j ++ (e3 j ++ (lone.1 j ++ [])))) refl $
    enter ! 𝓣.C 𝓣.Λ code.function (only (mut_vals v) ∷ global_told.val alloc ∷ only (shr_slice_vals key) ∷ w ∷ []) Post $ alloc_all ! (λ l. pass_all ! refl ((tt, tt), (((global_laws.lawful 𝓛).typed alloc _ is_alloc).0, (fits_key, (fits_new, tt)))) $
    sets ! (addr ! (through ! refl (stop !))) refl (tt, tt) $ sets ! (of_opd ! (get ! refl)) refl fits_new $
    let κs3 : Lfts 3 = (κs.0, (κs.1.0, ([], tt))) in
    let S : RattleType = arg-0-0 κs3 in
    let G = triple_of 𝓛 (g.signature S) (g.spec S impl.ghosts impl.dict 𝓛 𝓜.mem 𝓡.returns) in
    let z1 : G.Ghost = ((κs3, (qs.0, (qs.1.0, (full_share, tt))), ((λ n m. absurd (not-mem-nil m)), tt), a, (mut_vals v, ((global_told.val alloc ∷ []), (shr_slice_vals key, ((w ∷ []), tt))))), tt) in
    -- [v; alloc; the key; the value; the two tokens]
    nothing ! $ move ! (4 ∷ 0 ∷ []) $ join ! $ move ! (3 ∷ 0 ∷ []) $ join ! $ move ! (2 ∷ 0 ∷ []) $ join ! $ move ! (1 ∷ 0 ∷ []) $ join ! $
    nothing ! $ use0 𝓛 (‵ (flft [] full_share)) (𝓛.lfts.lft-nil full_share) $ join ! $ move ! (3 ∷ 0 ∷ []) $ join ! $ move ! (2 ∷ 0 ∷ []) $ join ! $ join ! $
    use0 𝓛 (raw (fact 𝓤 (type_of (tree_of v.now) ≡ kind.Object))) (fact_i 𝓤 _ (emp 𝓤) kind_is) $ use0 𝓛 (raw (fact 𝓤 (Incl [] value.lives))) (fact_i 𝓤 (Incl [] value.lives) (emp 𝓤) (λ n m. m)) $ join ! $ move ! (1 ∷ 0 ∷ []) $
    use2 𝓛 (raw (G.pre z1)) (id⊢ 𝓤 _) $
    calls_at ! (framed 𝓤 H 𝓜 𝓣) G (first-met.met 𝓤 𝓛 𝓜 𝓡 (code.calls-json_value::container_mut::insert_of 𝓡.env wired) S (laws-0-0 κs3) impl.ghosts impl.dict (impl-met.passed 𝓡.env (code.calls-json_value::container_mut::ValueContainerMut::list 𝓡.env wired) (code.calls-json_value::container_mut::ValueContainerMut::pairs 𝓡.env wired) (code.calls-json_value::container_mut::ValueContainerMut::pairs_with 𝓡.env wired) M 𝓤 𝓛 𝓜 𝓡)) z1
    (and_then ! (get ! refl) (and_then ! (get ! refl) (and_then ! (get ! refl) (and_then ! (get ! refl) (no_more !))))) (λ u.
    let F = mut_ref_field (record { mir = named 0; lft = κs.0 }) value tt in
    let ref-laws = of_field F (mut_ref_laws (record { mir = named 0; lft = κs.0 }) value tt) refl (mut_ref_shared (record { mir = named 0; lft = κs.0 }) value tt (row_shared value value_laws)) in
    let R = result.the_row F.row refusal in
    let Lent = λ (r : R.Denot). LendsSoOk value value v r (λ n w. (on_pairs (λ ps. Ok (inserted key.now (tree_of w) ps)) (tree_of v.now) ≡ Ok (tree_of n)) × UpsertsValue key.now w v.now n) (UpsertsNothing v.now) in
    use1 𝓛 (later (some (λ (r : R.Denot). ((‵ (flft κs.0 qs.0) ⊛ ‵ (flft κs.1.0 qs.1.0) ⊛ ‵ (flft [] full_share) ⊛ ‵ ftrue) ⊛ ‵ (R.own_val r (u ∷ []))) ⊛ some (λ (ws : Lasts (g.ended S impl.ghosts impl.dict) κs3 a). ‵ (lasts (g.ended S impl.ghosts impl.dict) κs3 a ws) ⊛ (‵ (Lent r) ⊛ (raw (fact 𝓤 (IfOk r (λ x. x.now ≡ new))) ⊛ raw (fact 𝓤 (IfErr r (λ e. e ≡ no_memory))))))))) (id⊢ 𝓤 _) $
    await ! tt $ pick ! (λ r. split ! $ split ! $ split ! $ move ! (2 ∷ []) $ peeks ! R _ (shows 𝓛 R) r (u ∷ []) (λ is.
    lands_as ! refl refl ((((result_laws F.row refusal ref-laws refusal_laws).lawful 𝓛).typed r (u ∷ []) is).0) $
    returns ! (look_at ! 0 refl) $ free_all ! refl $
    -- [the result; the first token; the other tokens; what is lent]
    move ! (3 ∷ []) $ pick ! (λ ws. split ! $ fsplit ! $ drop ! $ fsplit ! $ drop ! $ fsplit ! $ drop ! $ fsplit ! $
    -- [what is left of the new value; nothing; what is lent; the result; the first token; the other tokens]
    move ! (5 ∷ []) $ split ! $ move ! (2 ∷ 3 ∷ 4 ∷ 5 ∷ 6 ∷ 0 ∷ []) $
    suffices ! _ (ends_at 𝓛 f.ended stayed c z u r (tt, (tt, (tt, (ws.1.1.1.0, tt)))) (tt, (tt, (tt, (tt, tt))))) $
    join ! $ nothing ! $ join ! $ nothing ! $ join ! $ nothing ! $ join ! $ nothing ! $ move ! (5 ∷ 0 ∷ []) $ join ! $ move ! (4 ∷ 0 ∷ []) $ join ! $ keep ! (0 ∷ 1 ∷ 3 ∷ 2 ∷ []) $ group ! 3 $ done !)))))))
