use Rattle.json_value.proofs.HandProofs.{◌≡◌, MutBor, fact, [], ◌∷◌, refl, proved, id⊢, ftrue, named, tables, ‵, raw, ◌⊛◌, some, later, ◌$◌, ◌∵◌, !, qed, done, drop, use1, split, join, pick, await, suffices, group, enter, addr, stop, no_more, and_then, returns, alloc_all, pass_all, free_all, look_at, get, through, sets, lands_as, no, yes, move, peeks, shows, flft, mut_vals, mut_Tells, plain, nothing, calls_at, lasts, Lasts, triple_of, Stays, stay_dropped, Goes-spent_ref, Goes-dropped, ends_at, framed}
use Rattle.std.specs.contracts.alloc.Global.{the_row as global}
use Rattle.std.proofs.alloc.Global.TheLaws.{the_row_laws as global_laws, the_told as global_told}
use Rattle.json_value.specs.contracts.value.Value.{the_row as value}
use Rattle.json_value.proofs.value.Value.TheLaws.{the_row_laws as value_laws}
use Rattle.json_value.specs.Rows.{array_row}
use Rattle.json_value.proofs.container.Container.TheLaws.{the_row_laws as container_laws}
use Rattle.json_access.proofs.MaybeLent.{maybe_lent, maybe_lent_laws, same_tree}
use mathlib.Core.Option as maybe
use base.Fml.{GName}
use Rattle.std.specs.Prelude.{IfOk, IfErr, IfSome, option_map}
use Rattle.std.specs.Borrow.{follows_so}
use Rattle.json_grammar.specs.Tree.{list, list_trees}
use Rattle.json_io.specs.Errors.{no_memory}
use Rattle.json_value.specs.Denotes.{tree_of, list_in}
use Rattle.json_value.specs.Seen.{list_of}
use Rattle.json_value.specs.Lending.{lent, lent_name, IsReferenceLent, UnlessLent}
use Rattle.json_value.specs.Written.{ArrayOpened}
use Rattle.json_value.specs.declared.value.Value.{Value, Array}
use Rattle.json_value.specs.declared.container.Container.{Container}
use Rattle.json_value.proofs.LenderRelations.{so_weaken}
use Rattle.json_access.specs.contracts.value_mut_trait.ValueJsonValueMutTrait.as_array_mut as f
use Rattle.json_access.proofs.value_mut_trait.ValueJsonValueMutTrait.as_array_mut.Statement.{statement}
use Rattle.json_access.proofs.value_mut_trait.ValueJsonValueMutTrait.as_array_mut.Code as code
use denote.Triple.Clauses.{at_exit}
use Rattle.json_value.specs.contracts.value.Value.as_array_mut as g
use Rattle.json_value.proofs.value.Value.as_array_mut.Met as first-met

abbrev stayed : Stays f.ended.signature.params f.ended.kept
stayed = (stay_dropped _ no, (stay_dropped _ yes, tt))

pub as_array_mut_spec : {M : Type 1} → statement M
as_array_mut_spec 𝓤 𝓛 𝓜 𝓡 wired =
    let c = f.clauses 𝓛 𝓜.mem 𝓡.returns in
    proved 𝓛 f.ended stayed c 𝓜 𝓡 (Goes-spent_ref 𝓛 1 (0 ∷ []) tt (plain (λ _. value)), (Goes-dropped 𝓛 1 (plain (λ _. global)) yes (λ κs x w. refl), tt))
    f.Key.name code.function (code.unfolded 𝓤 𝓛.H 𝓜 𝓡 wired)
    (λ κs. (mut_vals, ((λ x. global_told.val x ∷ []), tt))) (λ κs. (mut_Tells (named 0) κs.0 value, (global_told.tells, tt))) (λ κs qs bounds a _ are.
    let v = a.0 in let alloc = a.1.0 in
    let G = triple_of 𝓛 g.signature (g.spec 𝓛 𝓜.mem 𝓡.returns) in
    let z : G.Ghost = ((κs, qs, bounds, a, (mut_vals v, ((global_told.val alloc ∷ []), tt))), tt) in
    let O = maybe_lent array_row κs.0 in
    qed 𝓛 (raw (G.pre z) ∷ []) ∵
    enter ! _ _ _ _ _ $ alloc_all ! (λ l. pass_all ! refl ((tt, tt), (((global_laws.lawful 𝓛).typed alloc _ are.1.0).0, tt)) $
    sets ! (addr ! (through ! refl (stop !))) refl (tt, tt) $
    calls_at ! (framed 𝓤 𝓛.H 𝓜 (tables 𝓤 𝓛.H 𝓜 𝓡 𝓡.env)) G (first-met.met 𝓤 𝓛 𝓜 𝓡 (code.calls-json_value::value::Value::as_array_mut 𝓡.env wired)) z
    (and_then ! (get ! refl) (and_then ! (get ! refl) (no_more !))) (λ u.
    use1 𝓛 (later (some (λ (r : O.Denot). ((‵ (flft κs.0 qs.0) ⊛ ‵ ftrue) ⊛ ‵ (O.own_val r (u ∷ []))) ⊛ some (λ (ws : Lasts g.ended κs a). ‵ (lasts g.ended κs a ws) ⊛ raw ((g.clauses 𝓛 𝓜.mem 𝓡.returns κs a).ensures tt r (at_exit g.ended κs a ws)))))) (id⊢ 𝓤 _) $
    await ! tt $ pick ! (λ r. split ! $ split ! $ move ! (1 ∷ []) $ peeks ! O _ (shows 𝓛 O) r (u ∷ []) (λ is.
    lands_as ! refl refl ((((maybe_lent_laws array_row κs.0 tt (container_laws value value_laws)).lawful 𝓛).typed r (u ∷ []) is).0) $
    returns ! (look_at ! 0 refl) $ free_all ! refl $
    -- [the result; the tokens; what is lent and said]
    move ! (2 ∷ []) $ pick ! (λ ws. split ! $ drop ! $
    let m : maybe.Option GName = lent_name r in
    let Lent = λ (Kept : Value → Type 0). follows_so value array_row v.ghost_name m (λ w n. IsReferenceLent m → (tree_of n ≡ list (list_trees (list_in w))) × (n ≡ Array w)) (λ n. UnlessLent m (Kept n)) in
    use1 𝓛 (‵ (Lent (λ n. n ≡ v.now)) ⊛ (raw (fact 𝓤 (IfOk r (λ o. option_map (λ (x : MutBor (Container Value)). list_in x.now) o ≡ list_of (tree_of v.now)))) ⊛ (raw (fact 𝓤 (IfSome (lent r) (ArrayOpened v.now))) ⊛ raw (fact 𝓤 (IfErr r (λ e. e ≡ no_memory)))))) (id⊢ 𝓤 _) $
    split ! $ use1 𝓛 (‵ (Lent (λ n. (tree_of n ≡ tree_of v.now) × (n ≡ v.now)))) (so_weaken 𝓛 value array_row v.ghost_name m _ _ _ _ (λ w n p. p) (λ n. same_tree m v.now n)) $ join ! $
    suffices ! _ (ends_at 𝓛 f.ended stayed c z u r (tt, (tt, tt)) (tt, (tt, tt))) $
    nothing ! $ nothing ! $ join ! $ nothing ! $ join ! $ move ! (3 ∷ 0 ∷ 2 ∷ 1 ∷ []) $ group ! 3 $ done !))))))
