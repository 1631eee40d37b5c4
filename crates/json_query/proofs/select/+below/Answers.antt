use Rattle.std.proofs.Common.{ℕ, List, ap, map, arith}
use Rattle.std.proofs.lemmas.Result.{on_ok_weaker}
use Rattle.json_grammar.specs.Tree.{Tree}
use Rattle.json_value.specs.Left.{elements_left, members_left}
use Rattle.json_value.specs.Seen.{seen}
use Rattle.json_query.specs.Models.{selector_of, descendants_by}
use Rattle.json_query.specs.ViewedNodes.{viewed, segment_viewed, member_values}
use Rattle.json_query.proofs.Appending.{appended_more}
use Rattle.json_query.proofs.ViewedParts.{array_nodes, object_nodes, elements_nodes, members_nodes, below_array, below_object, below_scalar, elements_to_view, members_to_view, element_given, member_given}
use Rattle.json_query.proofs.select.+below.Goals as goal

pub push_below-push_below_elements-requires : goal.push_below-push_below_elements-requires
push_below-push_below_elements-requires t c = (omega (arith, array_nodes (seen c.args.view) _ c.in-Some.ensures.trees), tt)

pub push_below-push_below_members-requires : goal.push_below-push_below_members-requires
push_below-push_below_members-requires t c = (omega (arith, object_nodes (seen c.args.view) _ c.in-Some-as_object.ensures.trees), tt)

pub push_below-returns-in-Some-clause-ok : goal.push_below-returns-in-Some-clause-ok
push_below-returns-in-Some-clause-ok t c =
    let is = c.in-Some.ensures in
    on_ok_weaker c.push_below_elements.result (λ e. below_array (map selector_of c.args.selectors.now) c.args.view c.in-Some.array _ _ _ is.trees is.targets c.in_ok-push_selected.ensures.ok e) c.push_below_elements.ensures.ok

pub push_below-returns-in-Some-as_object-clause-ok : goal.push_below-returns-in-Some-as_object-clause-ok
push_below-returns-in-Some-as_object-clause-ok t c =
    let is = c.in-Some-as_object.ensures in
    on_ok_weaker c.push_below_members.result (λ e. below_object (map selector_of c.args.selectors.now) c.args.view c.in-Some-as_object.object _ _ _ is.trees is.targets c.in_ok-push_selected.ensures.ok e) c.push_below_members.ensures.ok

pub push_below-returns-in-None-clause-ok : goal.push_below-returns-in-None-clause-ok
push_below-returns-in-None-clause-ok t c = below_scalar (map selector_of c.args.selectors.now) c.args.view _ _ c.in_default.ensures.trees c.in-None.ensures.trees c.in_ok-push_selected.ensures.ok

pub push_below_elements-elements-preserved : goal.push_below_elements-elements-preserved
push_below_elements-elements-preserved t c =
    let v = c.in-Some.element in
    let steps = c.in-Some.ensures.steps in
    let all = elements_left c.elements.element-iterator in
    let left = elements_left c.next.new.self in (
      appended_more (segment_viewed (descendants_by c.args.selectors.now)) _ _ _ (viewed v) (elements_to_view c.elements.element-iterator) (elements_to_view c.next.new.self) c.elements.invariant.0 (element_given _ _ v steps.0 steps.1) c.in_ok-push_below.ensures.ok,
      omega (arith, elements_nodes (seen v) all left steps.0, c.elements.invariant.1),
    )

pub push_below_members-members-preserved : goal.push_below_members-members-preserved
push_below_members-members-preserved t c =
    let k = c.in-Some.field-0-0.now in
    let v = c.in-Some.value in
    let steps = c.in-Some.ensures.steps in
    let all = members_left c.members.value-iterator in
    let left = members_left c.next.new.self in
    let m : List ℕ × Tree = (k, seen v) in
    let step = ap member_values (member_given _ _ k v steps.0 steps.1) in (
      appended_more (segment_viewed (descendants_by c.args.selectors.now)) _ _ _ (viewed v) (member_values (members_to_view c.members.value-iterator)) (member_values (members_to_view c.next.new.self)) c.members.invariant.0 step c.in_ok-push_below.ensures.ok,
      omega (arith, members_nodes m all left steps.0, c.members.invariant.1),
    )
