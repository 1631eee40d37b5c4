use Rattle.std.proofs.Common.{◌≡◌, ◌+◌, ◌*◌, ◌++◌, map}
use Rattle.json_grammar.specs.Sizes.{nodes, trees_nodes, pairs_nodes}
use Rattle.json_grammar.specs.Tree.{list_trees, list_pairs}
use Rattle.json_doc.specs.Left.{children_left, pairs_left}
use Rattle.json_doc.specs.Seen.{view_tree}
use Rattle.json_value.specs.Denotes.{tree_of, pair_of}
use Rattle.json_value.proofs.packed_view.+copied.Given as goal

abbrev pub decreases-copy_document : goal.decreases-copy_document
decreases-copy_document l = 2 * nodes (view_tree l.view) + 1

abbrev pub decreases-copy_children : goal.decreases-copy_children
decreases-copy_children l = 2 * trees_nodes (list_trees (children_left l.children)) + 2

abbrev pub decreases-copy_members : goal.decreases-copy_members
decreases-copy_members l = 2 * pairs_nodes (list_pairs (pairs_left l.members)) + 2

abbrev pub invariant-copy_children-loop-child : goal.invariant-copy_children-loop-child
invariant-copy_children-loop-child l =
    (goal.iterator-copy_children-loop-child).can_next l.child-iterator × (goal.iterator-copy_children-loop-child).is_finite l.child-iterator
    × (map tree_of l.list.items ++ children_left l.child-iterator ≡ children_left l.fn.children)

abbrev pub invariant-copy_members-loop-key : goal.invariant-copy_members-loop-key
invariant-copy_members-loop-key l =
    (goal.iterator-copy_members-loop-key).can_next l.key-iterator × (goal.iterator-copy_members-loop-key).is_finite l.key-iterator
    × (map pair_of l.list.items ++ pairs_left l.key-iterator ≡ pairs_left l.fn.members)
