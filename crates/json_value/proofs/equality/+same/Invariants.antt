use Rattle.std.proofs.Common.{◌≡◌, ◌+◌, ◌*◌, true, take, drop, option_map}
use Rattle.std.specs.List.{list_all}
use Rattle.json_grammar.specs.Sizes.{nodes, trees_nodes, pairs_nodes}
use Rattle.json_grammar.specs.Tree.{list_trees, list_pairs}
use Rattle.json_model.specs.Same.{trees_same}
use Rattle.json_value.specs.SameMembers.{agree_at, keys_in}
use Rattle.json_value.specs.Left.{elements_left, members_left}
use Rattle.json_value.specs.Seen.{seen, elements_seen, members_seen}
use Rattle.json_value.proofs.SameViews.{nodes_in}
use Rattle.json_value.proofs.MatchedMembers.{AreMatched}
use Rattle.json_value.proofs.equality.+same.Given as goal

abbrev pub decreases-are_same : goal.decreases-are_same
decreases-are_same l = 3 * nodes (seen l.first)

abbrev pub decreases-are_both_same : goal.decreases-are_both_same
decreases-are_both_same l = 3 * nodes_in (option_map seen l.first) + 1

abbrev pub decreases-are_arrays_same : goal.decreases-are_arrays_same
decreases-are_arrays_same l = 3 * trees_nodes (list_trees (elements_seen l.first)) + 2

abbrev pub decreases-are_objects_same : goal.decreases-are_objects_same
decreases-are_objects_same l = 3 * pairs_nodes (list_pairs (members_seen l.first)) + 2

abbrev pub decreases-are_firsts_same : goal.decreases-are_firsts_same
decreases-are_firsts_same l = 3 * pairs_nodes (list_pairs (members_seen l.first)) + 1

abbrev pub decreases-are_members_same : goal.decreases-are_members_same
decreases-are_members_same l = 3 * pairs_nodes (list_pairs (members_seen l.first)) + 1

abbrev pub invariant-are_arrays_same-elements : goal.invariant-are_arrays_same-elements
invariant-are_arrays_same-elements l =
    let xs = elements_seen l.fn.first in let ys = elements_seen l.fn.second in
    (drop l.step xs ≡ elements_left l.elements) × (drop l.step ys ≡ elements_left l.others) × (trees_same (list_trees xs) (list_trees ys) ≡ trees_same (list_trees (drop l.step xs)) (list_trees (drop l.step ys)))

abbrev pub invariant-are_firsts_same-members : goal.invariant-are_firsts_same-members
invariant-are_firsts_same-members l =
    let ps = members_seen l.fn.first in let qs = members_seen l.fn.second in
    (drop l.i ps ≡ members_left l.members) × (list_all (agree_at ps qs) (take l.i (keys_in ps)) ≡ true)

abbrev pub invariant-are_members_same-members : goal.invariant-are_members_same-members
invariant-are_members_same-members l =
    let ps = members_seen l.fn.first in let qs = members_seen l.fn.second in
    (drop l.i ps ≡ members_left l.members) × (drop l.i qs ≡ members_left l.others) × AreMatched (take l.i ps) (take l.i qs)
