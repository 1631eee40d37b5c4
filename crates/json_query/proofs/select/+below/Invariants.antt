use Rattle.std.proofs.Common.{◌≡◌, ◌+◌, ◌*◌, ◌≤◌, ◌++◌, map, flat_map}
use Rattle.json_grammar.specs.Sizes.{nodes, trees_nodes, pairs_nodes}
use Rattle.json_grammar.specs.Tree.{list_trees, list_pairs}
use Rattle.json_value.specs.Left.{elements_left, members_left}
use Rattle.json_value.specs.Seen.{seen, elements_seen, members_seen}
use Rattle.json_query.specs.Models.{descendants_by}
use Rattle.json_query.specs.ViewedNodes.{viewed, segment_viewed, elements_viewed, members_viewed, member_values}
use Rattle.json_query.proofs.ViewedParts.{elements_to_view, members_to_view}
use Rattle.json_query.proofs.select.+below.Given as goal

abbrev pub decreases-push_below : goal.decreases-push_below
decreases-push_below l = 2 * nodes (seen l.view)

abbrev pub decreases-push_below_elements : goal.decreases-push_below_elements
decreases-push_below_elements l = 2 * trees_nodes (list_trees (elements_seen l.array)) + 1

abbrev pub decreases-push_below_members : goal.decreases-push_below_members
decreases-push_below_members l = 2 * pairs_nodes (list_pairs (members_seen l.object)) + 1

-- what is selected so far, and of the elements left and all that is below them
abbrev pub invariant-push_below_elements-elements : goal.invariant-push_below_elements-elements
invariant-push_below_elements-elements l =
    let f = segment_viewed (descendants_by l.fn.selectors) in
    (map viewed l.found.items ++ flat_map f (elements_to_view l.element-iterator) ≡ map viewed l.fn.found.items ++ flat_map f (elements_viewed l.fn.array))
    × (trees_nodes (list_trees (elements_left l.element-iterator)) ≤ trees_nodes (list_trees (elements_seen l.fn.array)))

-- the same of the members left
abbrev pub invariant-push_below_members-members : goal.invariant-push_below_members-members
invariant-push_below_members-members l =
    let f = segment_viewed (descendants_by l.fn.selectors) in
    (map viewed l.found.items ++ flat_map f (member_values (members_to_view l.value-iterator)) ≡ map viewed l.fn.found.items ++ flat_map f (member_values (members_viewed l.fn.object)))
    × (pairs_nodes (list_pairs (members_left l.value-iterator)) ≤ pairs_nodes (list_pairs (members_seen l.fn.object)))
