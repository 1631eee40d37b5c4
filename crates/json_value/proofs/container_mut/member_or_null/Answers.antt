use Rattle.std.proofs.Common.{◌≡◌, ◌⊎◌, ◌∷◌, [], map, Vec, Global, Ok, refl, sym, ap, ◌∙◌}
use Rattle.std.specs.Vec.{with_item}
use Rattle.std.proofs.lemmas.Result.{err_from_is_err_and}
use Rattle.json_grammar.specs.Tree.{pairs, list_pairs}
use Rattle.json_io.specs.Errors.{no_memory}
use Rattle.json_model.specs.Edit.{key_step, inserted}
use Rattle.json_value.specs.Denotes.{tree_of, pair_of}
use Rattle.json_value.specs.Lending.{opened_with, put_or_insert}
use Rattle.json_value.specs.Rows.{keyed_so}
use Rattle.json_value.specs.Touched.{ObjectTouched, ReplacedBy}
use Rattle.json_value.specs.declared.value.Value.{Value, Null}
use Rattle.json_value.specs.declared.pair.Keyed.{Keyed}
use Rattle.json_value.proofs.Lent.{seated_put, seated_value, opened_put, opened_found, opened_kept}
use Rattle.json_value.proofs.AppliedTrees.{refused_as}
use Rattle.json_value.proofs.LentNames.{never_ok}
use Rattle.json_value.proofs.EditedValues.{seated_or_null}
use Rattle.json_value.proofs.RefusedCalls.{nothing_put, member_or_null_not_put}
use Rattle.json_value.proofs.container_mut.member_or_null.Goals as goal

pub returns : goal.returns
returns g c =
    let old = g.S.ContainerMut.held c.args.container.now in
    let t = tree_of old in
    let k = c.args.key.now in
    let lent = c.in_ok-pairs.pairs.now in
    let new = c.find_or_insert.new.pairs in
    let i = c.in_ok-i.i in
    let p = c.index_mut-pair.result.now in
    let is = c.in_ok-pairs.ensures.value in
    let made = c.in_ok-i.ensures.pairs in
    let read = c.index_mut-pair.ensures.value in
    let first = c.in_ok-i.ensures.first in
    let x = c.value_mut.result.now in
    let after : (w : Vec (Keyed Value) Global) → (tree_of (g.S.ContainerMut.held (c.pairs_with.follows.lender w)) ≡ pairs (list_pairs (map pair_of w.items))) × ((old ≡ Null) ⊎ ObjectTouched (ReplacedBy lent.items w.items) old (g.S.ContainerMut.held (c.pairs_with.follows.lender w))) =
    λ w. (rw c.in_ok-pairs.was at (c.pairs_with.follows.holds w)) refl
    in (
      (
        refl,
        (λ w ok. (
          sym (opened_put k (tree_of w) t) ∙ seated_put (opened_with k t) k lent.items new.items is made i p read first w _ (after (with_item new i (keyed_so p.key w))).0,
          seated_or_null x k lent.items new.items i p w read first (sym c.value_mut.ensures.value) old _ c.in_ok-i.ensures.seated (after (with_item new i (keyed_so p.key w))).1,
        )),
        tt,
      ),
      (ap tree_of c.value_mut.ensures.value ∙ seated_value (opened_with k t) k lent.items new.items is made i p read first ∙ opened_found k t, tt),
    )

pub returns-in_err-pairs : goal.returns-in_err-pairs
returns-in_err-pairs g c =
    let p = err_from_is_err_and c.from_residual.result c.from_residual.ensures.1 in
    let k = c.args.key.now in
    rw (p.1, p.2) (
      (refl, (λ w never. never_ok never), nothing_put (key_step k ∷ []) (g.S.ContainerMut.held c.args.container.now) _ (rw c.in_err-pairs.was at c.pairs_with.follows.holds-at-none)),
      (tt, λ u. c.in_err-pairs.ensures.refused (λ ps. Ok (inserted k u ps))),
    )

pub returns-in_err-i : goal.returns-in_err-i
returns-in_err-i g c =
    let old = g.S.ContainerMut.held c.args.container.now in
    let t = tree_of old in
    let k = c.args.key.now in
    let lent = c.in_ok-pairs.pairs.now in
    let new = c.find_or_insert.new.pairs in
    let is = c.in_ok-pairs.ensures.value in
    let kept = c.in_err-i.ensures.kept in
    let absent = c.in_err-i.ensures.absent in
    let p = err_from_is_err_and c.from_residual-in_err-i.result c.from_residual-in_err-i.ensures.1 in
    let after : (tree_of (g.S.ContainerMut.held (c.pairs_with.follows.lender new)) ≡ pairs (list_pairs (map pair_of new.items))) × ((old ≡ Null) ⊎ ObjectTouched (ReplacedBy lent.items new.items) old (g.S.ContainerMut.held (c.pairs_with.follows.lender new))) =
    (rw c.in_ok-pairs.was at (c.pairs_with.follows.holds new)) refl
    in
    let same = after.0 ∙ ap (λ ps. pairs (list_pairs (map pair_of ps))) kept ∙ sym is ∙ opened_kept k t (list_pairs (map pair_of lent.items)) is absent in
    rw (p.1, p.2) (
      (refl, (λ w never. never_ok never), member_or_null_not_put k lent.items new.items old _ kept is absent same after.1),
      (tt, λ u. refused_as (put_or_insert (key_step k) u t) c.in_err-i.field-0.0 no_memory c.in_err-i.ensures.only tt),
    )
