use Rattle.std.proofs.Common.{◌+◌, ◌*◌, ◌≤◌}
use Rattle.json_grammar.specs.Sizes.{nodes, trees_nodes, pairs_nodes}
use Rattle.json_grammar.specs.Tree.{list, list_trees, pairs, list_pairs}
use Rattle.json_model.specs.Print.{shown}
use Rattle.json_doc.specs.Left.{children_left, pairs_left}
use Rattle.json_doc_print.specs.ShownNodes.{node_tree}
use Rattle.json_doc_print.proofs.ShownTrees.{Goes, held, elements_left, members_left}
use Rattle.json_doc_print.proofs.show_packed.+shown.Given as goal

abbrev pub decreases-show_children : goal.decreases-show_children
decreases-show_children g l = 3 * trees_nodes (list_trees (children_left l.children)) + 2

abbrev pub decreases-show_element : goal.decreases-show_element
decreases-show_element g l = 3 * nodes (node_tree l.node) + 1

abbrev pub decreases-show_node : goal.decreases-show_node
decreases-show_node g l = 3 * nodes (node_tree l.node)

abbrev pub decreases-show_member : goal.decreases-show_member
decreases-show_member g l = 3 * nodes (node_tree l.node)

abbrev pub decreases-show_pairs : goal.decreases-show_pairs
decreases-show_pairs g l = 3 * pairs_nodes (list_pairs (pairs_left l.members)) + 2

abbrev pub invariant-show_children-loop-child : goal.invariant-show_children-loop-child
invariant-show_children-loop-child g l =
    let i = g.L.Layout.indent l.layout in
    (goal.iterator-show_children-loop-child g).can_next l.child-iterator × (goal.iterator-show_children-loop-child g).is_finite l.child-iterator
    × (trees_nodes (list_trees (children_left l.child-iterator)) ≤ trees_nodes (list_trees (children_left l.fn.children)))
    × Goes l.level (l.level + 1) (held g.W.Sink.state l.fn.out) (held g.W.Sink.state l.out) (elements_left i l.level (l.level + 1) l.first (children_left l.child-iterator)) (shown i l.level (list (list_trees (children_left l.fn.children))))

abbrev pub invariant-show_pairs-loop-key : goal.invariant-show_pairs-loop-key
invariant-show_pairs-loop-key g l =
    let i = g.L.Layout.indent l.layout in
    (goal.iterator-show_pairs-loop-key g).can_next l.key-iterator × (goal.iterator-show_pairs-loop-key g).is_finite l.key-iterator
    × (pairs_nodes (list_pairs (pairs_left l.key-iterator)) ≤ pairs_nodes (list_pairs (pairs_left l.fn.members)))
    × Goes l.level (l.level + 1) (held g.W.Sink.state l.fn.out) (held g.W.Sink.state l.out) (members_left i l.level (l.level + 1) l.first (pairs_left l.key-iterator)) (shown i l.level (pairs (list_pairs (pairs_left l.fn.members))))
