use Rattle.std.proofs.Common.{◌≡◌, ◌∷◌, [], map, Vec, Global, Some, refl, sym, ap, ◌∙◌}
use Rattle.std.specs.Vec.{with_item}
use Rattle.std.proofs.lemmas.Result.{err_from_is_err_and}
use Rattle.json_grammar.specs.Tree.{pairs, list_pairs}
use Rattle.json_io.specs.Errors.{not_found}
use Rattle.json_model.specs.Edit.{at_path, at_key, key_step}
use Rattle.json_value.specs.Denotes.{tree_of, pair_of}
use Rattle.json_value.specs.Rows.{keyed_so}
use Rattle.json_value.specs.Touched.{ObjectTouched, ReplacedBy}
use Rattle.json_value.specs.declared.value.Value.{Value}
use Rattle.json_value.specs.declared.pair.Keyed.{Keyed}
use Rattle.json_value.proofs.AppliedTrees.{first_moved, none_moved, refused_as}
use Rattle.json_value.proofs.Lent.{member_there, member_put, member_missed}
use Rattle.json_value.proofs.LentNames.{never_ok}
use Rattle.json_value.proofs.EditedValues.{member_exchanged}
use Rattle.json_value.proofs.RefusedCalls.{nothing_put, member_not_put}
use Rattle.json_value.proofs.container_mut.member_of.Goals as goal

pub returns-in-Some : goal.returns-in-Some
returns-in-Some g c =
    let old = g.S.ContainerMut.held c.args.container.now in
    let t = tree_of old in
    let k = c.args.key.now in
    let lent = c.in_ok-pairs.pairs.now in
    let is = c.in_ok-pairs.ensures.value in
    let i = c.in-Some.i in
    let p = c.index_mut-pair.result.now in
    let read = c.index_mut-pair.ensures.value in
    let first = first_moved k k c.as_slice.result.now lent.items i refl c.as_slice.ensures.value c.in-Some.ensures.first in
    let after : (w : Vec (Keyed Value) Global) → (tree_of (g.S.ContainerMut.held (c.pairs.follows.lender w)) ≡ pairs (list_pairs (map pair_of w.items))) × ObjectTouched (ReplacedBy lent.items w.items) old (g.S.ContainerMut.held (c.pairs.follows.lender w)) =
    λ w. (rw c.in_ok-pairs.was at (c.pairs.follows.holds w)) refl
    in (
      (
        refl,
        (λ w ok. (
          member_put t k lent.items is i p read first w _ (after (with_item lent i (keyed_so p.key w))).0,
          member_exchanged k lent.items i p c.value_mut.result.now w old _ read first c.value_mut.ensures.value (after (with_item lent i (keyed_so p.key w))).1,
        )),
        tt,
      ),
      (member_there t k lent.items is i p read first ∙ sym (ap (λ v. Some (tree_of v)) c.value_mut.ensures.value), tt),
    )

pub returns-in-None : goal.returns-in-None
returns-in-None g c =
    let old = g.S.ContainerMut.held c.args.container.now in
    let k = c.args.key.now in
    let lent = c.in_ok-pairs.pairs.now in
    let is = c.in_ok-pairs.ensures.value in
    let none = none_moved k k c.as_slice.result.now lent.items refl c.as_slice.ensures.value c.in-None.ensures.none in
    let after : (tree_of (g.S.ContainerMut.held (c.pairs.follows.lender lent)) ≡ pairs (list_pairs (map pair_of lent.items))) × ObjectTouched (ReplacedBy lent.items lent.items) old (g.S.ContainerMut.held (c.pairs.follows.lender lent)) =
    (rw c.in_ok-pairs.was at (c.pairs.follows.holds lent)) refl
    in (
      (refl, (λ w never. search), member_not_put lent.items lent.items refl old _ after.1 k is after.0),
      (tt, λ f. refused_as (at_path (key_step k ∷ []) f (tree_of old)) c.not_found_error.result not_found c.not_found_error.ensures (member_missed (tree_of old) k lent.items is f none)),
    )

pub returns-in_err-pairs : goal.returns-in_err-pairs
returns-in_err-pairs g c =
    let p = err_from_is_err_and c.from_residual.result c.from_residual.ensures.1 in
    let k = c.args.key.now in
    rw (p.1, p.2) (
      (refl, (λ w never. never_ok never), nothing_put (key_step k ∷ []) (g.S.ContainerMut.held c.args.container.now) _ (rw c.in_err-pairs.was at c.pairs.follows.holds-at-none)),
      (tt, λ f. c.in_err-pairs.ensures.refused (at_key k f)),
    )
