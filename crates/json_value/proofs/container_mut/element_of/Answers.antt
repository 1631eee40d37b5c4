use Rattle.std.proofs.Common.{◌≡◌, ◌≤◌, ◌∷◌, [], length, map, Vec, Global, refl, arith}
use Rattle.std.specs.Vec.{with_item}
use Rattle.std.proofs.lemmas.Result.{err_from_is_err_and}
use Rattle.json_grammar.specs.Tree.{list, list_trees}
use Rattle.json_io.specs.Errors.{not_found}
use Rattle.json_model.specs.Edit.{at_path, at_index, index_step}
use Rattle.json_value.specs.Denotes.{tree_of}
use Rattle.json_value.specs.Touched.{ArrayTouched, ReplacedBy}
use Rattle.json_value.specs.declared.value.Value.{Value}
use Rattle.json_value.proofs.AppliedTrees.{refused_as}
use Rattle.json_value.proofs.Lent.{element_there, element_put, element_past}
use Rattle.json_value.proofs.LentNames.{never_ok}
use Rattle.json_value.proofs.EditedValues.{element_exchanged}
use Rattle.json_value.proofs.RefusedCalls.{nothing_put, element_not_put}
use Rattle.json_value.proofs.container_mut.element_of.Goals as goal

pub returns-in-Some : goal.returns-in-Some
returns-in-Some g c =
    let old = g.S.ContainerMut.held c.args.container.now in
    let t = tree_of old in
    let lent = c.in_ok-list.list.now in
    let i = c.args.index in
    let v = c.in-Some.value.now in
    let low = c.in-Some.ensures.item.3.0 in
    let after : (w : Vec Value Global) → (tree_of (g.S.ContainerMut.held (c.list.follows.lender w)) ≡ list (list_trees (map tree_of w.items))) × ArrayTouched (ReplacedBy lent.items w.items) old (g.S.ContainerMut.held (c.list.follows.lender w)) =
    λ w. (rw c.in_ok-list.was at (c.list.follows.holds w)) refl
    in (
      (
        refl,
        (λ w ok. (
          element_put t lent.items i c.in_ok-list.ensures.value v w _ low c.in-Some.ensures.value (after (with_item lent i w)).0,
          element_exchanged lent.items i v w old _ low c.in-Some.ensures.value (after (with_item lent i w)).1,
        )),
        tt,
      ),
      record { writes_back = tt; value = element_there t lent.items i c.in_ok-list.ensures.value v low c.in-Some.ensures.value; refused = tt },
    )

pub returns-in-None : goal.returns-in-None
returns-in-None g c =
    let old = g.S.ContainerMut.held c.args.container.now in
    let lent = c.in_ok-list.list.now in
    let is = c.in_ok-list.ensures.value in
    let i = c.args.index in
    let after : (tree_of (g.S.ContainerMut.held (c.list.follows.lender lent)) ≡ list (list_trees (map tree_of lent.items))) × ArrayTouched (ReplacedBy lent.items lent.items) old (g.S.ContainerMut.held (c.list.follows.lender lent)) =
    (rw c.in_ok-list.was at (c.list.follows.holds lent)) refl
    in
    let past : length lent.items ≤ i = grind (arith, c.in-None.ensures.variant, lent.ok.0) in (
      (refl, (λ w never. search), element_not_put lent.items lent.items refl old _ after.1 i is after.0),
      record { writes_back = tt; value = tt; refused = λ f. refused_as (at_path (index_step i ∷ []) f (tree_of old)) c.not_found_error.result not_found c.not_found_error.ensures (element_past (tree_of old) lent.items i is f past) },
    )

pub returns-in_err-list : goal.returns-in_err-list
returns-in_err-list g c =
    let p = err_from_is_err_and c.from_residual.result c.from_residual.ensures.1 in
    let i = c.args.index in
    rw (p.1, p.2) (
      (refl, (λ w never. never_ok never), nothing_put (index_step i ∷ []) (g.S.ContainerMut.held c.args.container.now) _ (rw c.in_err-list.was at c.list.follows.holds-at-none)),
      record { writes_back = tt; value = tt; refused = λ f. c.in_err-list.ensures.refused (at_index i f) },
    )
