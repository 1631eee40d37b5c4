use Rattle.std.proofs.Common.{◌+◌, ◌*◌, ◌≤◌, drop, map}
use Rattle.json_grammar.specs.Sizes.{nodes, trees_nodes, pairs_nodes}
use Rattle.json_grammar.specs.Tree.{list, list_trees, pairs, list_pairs}
use Rattle.json_model.specs.Print.{shown}
use Rattle.json_model.specs.Sort.{sorted}
use Rattle.json_doc.specs.Docs.{doc_tree}
use Rattle.json_doc.specs.Left.{children_left, pairs_left}
use Rattle.json_doc.specs.Seen.{view_tree}
use Rattle.json_doc_print.specs.KeyOrder.{numbers_in, key_before}
use Rattle.json_doc_print.specs.Readings.{members}
use Rattle.json_doc_print.proofs.KeyOrders.{paired, sorted_at, sorted_pair}
use Rattle.json_doc_print.proofs.ShownTrees.{held, elements_left, members_left}
use Rattle.json_doc_print.proofs.SortedTrees.{GoesSorted}
use Rattle.json_doc_print.proofs.show_sorted_packed.+shown_sorted.Given as goal

abbrev pub decreases-show_sorted_member : goal.decreases-show_sorted_member
decreases-show_sorted_member g l = 3 * nodes (view_tree l.view)

abbrev pub decreases-show_sorted_element : goal.decreases-show_sorted_element
decreases-show_sorted_element g l = 3 * nodes (view_tree l.view) + 1

abbrev pub decreases-show_sorted_children : goal.decreases-show_sorted_children
decreases-show_sorted_children g l = 3 * trees_nodes (list_trees (children_left l.children)) + 2

abbrev pub decreases-show_sorted_members : goal.decreases-show_sorted_members
decreases-show_sorted_members g l = 3 * pairs_nodes (list_pairs (members (view_tree l.view))) + 2

abbrev pub decreases-show_packed_in_place : goal.decreases-show_packed_in_place
decreases-show_packed_in_place g l = 3 * pairs_nodes (list_pairs (pairs_left l.members)) + 1

abbrev pub decreases-show_by_places : goal.decreases-show_by_places
decreases-show_by_places g l = 3 * pairs_nodes (list_pairs (pairs_left l.members)) + 1

abbrev pub invariant-show_sorted_children-loop-child : goal.invariant-show_sorted_children-loop-child
invariant-show_sorted_children-loop-child g l =
    let i = g.L.Layout.indent l.layout.inner in
    (goal.iterator-show_sorted_children-loop-child g).can_next l.child-iterator × (goal.iterator-show_sorted_children-loop-child g).is_finite l.child-iterator
    × (trees_nodes (list_trees (children_left l.child-iterator)) ≤ trees_nodes (list_trees (children_left l.fn.children)))
    × GoesSorted (held g.W.Sink.state l.fn.out) (held g.W.Sink.state l.out) (elements_left i l.level (l.level + 1) l.first (map sorted (children_left l.child-iterator))) (shown i l.level (sorted (list (list_trees (children_left l.fn.children)))))

abbrev pub invariant-show_packed_in_place-loop-key : goal.invariant-show_packed_in_place-loop-key
invariant-show_packed_in_place-loop-key g l =
    let i = g.L.Layout.indent l.layout.inner in
    (goal.iterator-show_packed_in_place-loop-key g).can_next l.key-iterator × (goal.iterator-show_packed_in_place-loop-key g).is_finite l.key-iterator
    × (pairs_nodes (list_pairs (pairs_left l.key-iterator)) ≤ pairs_nodes (list_pairs (pairs_left l.fn.members)))
    × GoesSorted (held g.W.Sink.state l.fn.out) (held g.W.Sink.state l.out) (members_left i l.level (l.level + 1) l.first (map sorted_pair (pairs_left l.key-iterator))) (shown i l.level (sorted (pairs (list_pairs (pairs_left l.fn.members)))))

abbrev pub invariant-show_by_places-loop-entry : goal.invariant-show_by_places-loop-entry
invariant-show_by_places-loop-entry g l =
    let i = g.L.Layout.indent l.layout.inner in let qs = map (paired (key_before l.fn.doc) (sorted_at (doc_tree l.fn.doc))) (numbers_in l.entry-items) in
    GoesSorted (held g.W.Sink.state l.fn.out) (held g.W.Sink.state l.out) (members_left i l.level (l.level + 1) l.first (drop l.entry-index qs)) (shown i l.level (sorted (pairs (list_pairs (pairs_left l.fn.members)))))
