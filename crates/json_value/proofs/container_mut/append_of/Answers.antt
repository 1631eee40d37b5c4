use Rattle.std.proofs.Common.{◌≡◌, map, Vec, Global, refl}
use Rattle.std.specs.Vec.{with_item}
use Rattle.std.proofs.lemmas.Result.{err_from_is_err_and}
use Rattle.json_grammar.specs.Tree.{list, list_trees}
use Rattle.json_value.specs.Denotes.{tree_of}
use Rattle.json_value.specs.Touched.{ArrayTouched, ReplacedBy}
use Rattle.json_value.specs.declared.value.Value.{Value}
use Rattle.json_value.proofs.Lent.{list_memory, pushed_put, last_read}
use Rattle.json_value.proofs.LentNames.{never_ok}
use Rattle.json_value.proofs.EditedValues.{element_added}
use Rattle.json_value.proofs.RefusedCalls.{nothing_added, element_not_added}
use Rattle.json_value.proofs.container_mut.append_of.Goals as goal

pub returns-in_err-list : goal.returns-in_err-list
returns-in_err-list g c =
    let p = err_from_is_err_and c.from_residual.result c.from_residual.ensures.1 in
    let only = list_memory (tree_of (g.S.ContainerMut.held c.args.container.now)) c.in_err-list.field-0.0 c.requires c.in_err-list.ensures.refused in
    rw (p.1, p.2) ((refl, (λ w never. never_ok never), nothing_added (g.S.ContainerMut.held c.args.container.now) _ (rw c.in_err-list.was at c.list.follows.holds-at-none)), record { writes_back = tt; value = tt; only = only })

pub returns : goal.returns
returns g c =
    let old = g.S.ContainerMut.held c.args.container.now in
    let t = tree_of old in
    let lent = c.in_ok-list.list.now in
    let new = c.push_last.new.list in
    let i = c.in_ok-last.last in
    let v = c.index_mut.result.now in
    let is = c.in_ok-list.ensures.value in
    let made = c.in_ok-last.ensures.items in
    let end = c.in_ok-last.ensures.index in
    let after : (w : Vec Value Global) → (tree_of (g.S.ContainerMut.held (c.list.follows.lender w)) ≡ list (list_trees (map tree_of w.items))) × ArrayTouched (ReplacedBy lent.items w.items) old (g.S.ContainerMut.held (c.list.follows.lender w)) =
    λ w. (rw c.in_ok-list.was at (c.list.follows.holds w)) refl
    in (
      (
        refl,
        (λ w ok. (
          pushed_put t lent.items new.items c.args.val i is made end w _ (after (with_item new i w)).0,
          element_added lent.items new.items c.args.val w old _ i made end (after (with_item new i w)).1,
        )),
        tt,
      ),
      record { writes_back = tt; value = last_read lent.items new.items c.args.val i made end v c.index_mut.ensures.value; only = tt },
    )

pub returns-in_err-last : goal.returns-in_err-last
returns-in_err-last g c =
    let old = g.S.ContainerMut.held c.args.container.now in
    let lent = c.in_ok-list.list.now in
    let new = c.push_last.new.list in
    let p = err_from_is_err_and c.from_residual-in_err-last.result c.from_residual-in_err-last.ensures.1 in
    let after : (tree_of (g.S.ContainerMut.held (c.list.follows.lender new)) ≡ list (list_trees (map tree_of new.items))) × ArrayTouched (ReplacedBy lent.items new.items) old (g.S.ContainerMut.held (c.list.follows.lender new)) =
    (rw c.in_ok-list.was at (c.list.follows.holds new)) refl
    in
    rw (p.1, p.2) (
      (refl, (λ w never. never_ok never), element_not_added lent.items new.items c.in_err-last.ensures.kept old _ after.1 c.in_ok-list.ensures.value after.0),
      record { writes_back = tt; value = tt; only = c.in_err-last.ensures.only },
    )
