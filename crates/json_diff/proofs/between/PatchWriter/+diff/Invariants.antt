use Rattle.std.proofs.Common.{◌+◌, ◌-◌, ◌*◌, ◌≤◌, length, map, drop}
use Rattle.json_grammar.specs.Sizes.{nodes, pairs_nodes, trees_nodes}
use Rattle.json_grammar.specs.Tree.{list_pairs, list_trees}
use Rattle.json_diff.specs.Diff.{members_operations, element_operations}
use Rattle.json_value.specs.Left.{members_left}
use Rattle.json_value.specs.Seen.{seen, members_seen, elements_seen}
use Rattle.json_diff.proofs.DiffWriting.{Remains}
use Rattle.json_diff.proofs.between.PatchWriter.+diff.Given as goal

abbrev pub decreases-push_operations : goal.decreases-push_operations
decreases-push_operations l = 5 * nodes (seen l.to)

abbrev pub decreases-push_child : goal.decreases-push_child
decreases-push_child l = 5 * nodes (seen l.to) + 1

abbrev pub decreases-push_child_at : goal.decreases-push_child_at
decreases-push_child_at l = 5 * nodes (seen l.to) + 2

abbrev pub decreases-push_members : goal.decreases-push_members
decreases-push_members l = 5 * pairs_nodes (list_pairs (members_seen l.to)) + 3

abbrev pub decreases-push_elements : goal.decreases-push_elements
decreases-push_elements l = 5 * trees_nodes (list_trees (map seen l.to.now)) + 3

abbrev pub decreases-push_arrays : goal.decreases-push_arrays
decreases-push_arrays l = 5 * trees_nodes (list_trees (elements_seen l.to)) + 4

-- the operations for the members left
abbrev pub invariant-push_members-members : goal.invariant-push_members-members
invariant-push_members-members l =
    let ps = list_pairs (members_seen l.fn.from) in let qs = list_pairs (members_seen l.fn.to) in let left = list_pairs (members_left l.key-iterator) in
    Remains l.fn.self l.self (members_operations ps left) (members_operations ps qs)
    × (pairs_nodes left ≤ pairs_nodes qs)

-- the operations for the elements left
abbrev pub invariant-push_elements-loop-i : goal.invariant-push_elements-loop-i
invariant-push_elements-loop-i l =
    let ts = map seen l.from in let us = map seen l.to in
    Remains l.fn.self l.self (element_operations l.i (drop l.i ts) (length l.to - l.i) (list_trees (drop l.i us))) (element_operations 0 ts (length l.to) (list_trees us))
