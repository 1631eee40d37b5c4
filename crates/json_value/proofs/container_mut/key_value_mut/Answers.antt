use Rattle.std.proofs.Common.{◌≡◌, map, Vec, Global, refl}
use Rattle.std.specs.Vec.{with_item}
use Rattle.std.proofs.lemmas.Result.{err_from_is_err_and}
use Rattle.json_grammar.specs.Tree.{pairs, list_pairs}
use Rattle.json_io.specs.Errors.{no_memory}
use Rattle.json_model.specs.Edit.{on_pairs}
use Rattle.json_value.specs.Denotes.{tree_of, pair_of}
use Rattle.json_value.specs.Rows.{keyed_so}
use Rattle.json_value.specs.Touched.{ObjectTouched, ReplacedBy}
use Rattle.json_value.specs.declared.value.Value.{Value}
use Rattle.json_value.specs.declared.pair.Keyed.{Keyed}
use Rattle.json_value.proofs.Lent.{seated_put}
use Rattle.json_value.proofs.AppliedTrees.{refused_as}
use Rattle.json_value.proofs.LentNames.{never_ok}
use Rattle.json_value.proofs.EditedValues.{seated_written}
use Rattle.json_value.proofs.RefusedCalls.{nothing_seated, member_not_seated}
use Rattle.json_value.proofs.container_mut.key_value_mut.Goals as goal

pub returns : goal.returns
returns g c =
    let old = g.S.ContainerMut.held c.args.container.now in
    let k = c.args.key.now in
    let lent = c.in_ok-pairs.pairs.now in
    let new = c.find_or_insert.new.pairs in
    let i = c.in_ok-i.i in
    let p = c.index_mut-pair.result.now in
    let read = c.index_mut-pair.ensures.value in
    let first = c.in_ok-i.ensures.first in
    let after : (w : Vec (Keyed Value) Global) → (tree_of (g.S.ContainerMut.held (c.pairs.follows.lender w)) ≡ pairs (list_pairs (map pair_of w.items))) × ObjectTouched (ReplacedBy lent.items w.items) old (g.S.ContainerMut.held (c.pairs.follows.lender w)) =
    λ w. (rw c.in_ok-pairs.was at (c.pairs.follows.holds w)) refl
    in (
      (
        refl,
        (λ w ok. (
          seated_put (tree_of old) k lent.items new.items c.in_ok-pairs.ensures.value c.in_ok-i.ensures.pairs i p read first w _ (after (with_item new i (keyed_so p.key w))).0,
          seated_written (λ before after. after ≡ w) k lent.items new.items i p w read first refl old _ c.in_ok-i.ensures.seated (after (with_item new i (keyed_so p.key w))).1,
        )),
        tt,
      ),
      tt,
    )

pub returns-in_err-pairs : goal.returns-in_err-pairs
returns-in_err-pairs g c =
    let p = err_from_is_err_and c.from_residual.result c.from_residual.ensures.1 in
    rw (p.1, p.2) (
      (refl, (λ w never. never_ok never), nothing_seated (g.S.ContainerMut.held c.args.container.now) _ (rw c.in_err-pairs.was at c.pairs.follows.holds-at-none)),
      c.in_err-pairs.ensures.refused,
    )

pub returns-in_err-i : goal.returns-in_err-i
returns-in_err-i g c =
    let old = g.S.ContainerMut.held c.args.container.now in
    let lent = c.in_ok-pairs.pairs.now in
    let new = c.find_or_insert.new.pairs in
    let p = err_from_is_err_and c.from_residual-in_err-i.result c.from_residual-in_err-i.ensures.1 in
    let after : (tree_of (g.S.ContainerMut.held (c.pairs.follows.lender new)) ≡ pairs (list_pairs (map pair_of new.items))) × ObjectTouched (ReplacedBy lent.items new.items) old (g.S.ContainerMut.held (c.pairs.follows.lender new)) =
    (rw c.in_ok-pairs.was at (c.pairs.follows.holds new)) refl
    in
    rw (p.1, p.2) (
      (refl, (λ w never. never_ok never), member_not_seated lent.items new.items c.in_err-i.ensures.kept old _ after.1 c.in_ok-pairs.ensures.value after.0),
      (λ f. refused_as (on_pairs f (tree_of old)) c.in_err-i.field-0.0 no_memory c.in_err-i.ensures.only tt),
    )
