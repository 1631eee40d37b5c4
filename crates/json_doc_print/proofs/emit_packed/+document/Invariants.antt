use Rattle.std.proofs.Common.{◌≡◌, None, ℕ, ◌+◌, ◌*◌, drop}
use Rattle.json_grammar.specs.Sizes.{nodes, trees_nodes, pairs_nodes}
use Rattle.json_grammar.specs.Tree.{list_trees, list_pairs}
use Rattle.json_doc.specs.Left.{children_left, pairs_left}
use Rattle.json_doc.specs.Seen.{view_tree}
use Rattle.json_print.specs.Taking.{after_all}
use Rattle.json_doc_print.proofs.TokensGiven.{array_front, object_front}
use Rattle.json_doc_print.proofs.emit_packed.+document.Given as goal

abbrev pub decreases-emit_document : goal.decreases-emit_document
decreases-emit_document g l = 2 * nodes (view_tree l.view) + 1

abbrev pub decreases-emit_children : goal.decreases-emit_children
decreases-emit_children g l = 2 * trees_nodes (list_trees (children_left l.children)) + 2

abbrev pub decreases-emit_packed_pairs : goal.decreases-emit_packed_pairs
decreases-emit_packed_pairs g l = 2 * pairs_nodes (list_pairs (pairs_left l.members)) + 2

abbrev pub invariant-emit_children-loop-child : goal.invariant-emit_children-loop-child
invariant-emit_children-loop-child g l =
    (goal.iterator-emit_children-loop-child g).can_next l.child-iterator × (goal.iterator-emit_children-loop-child g).is_finite l.child-iterator
    × (i : ℕ) × (drop i (children_left l.fn.children) ≡ children_left l.child-iterator)
    × (g.E.Events.state l.out ≡ after_all g.E.Events.after (g.E.Events.state l.fn.out) (array_front (children_left l.fn.children) i))
    × (g.E.Events.failed l.out ≡ None) × (g.E.Events.failed l.fn.out ≡ None)

abbrev pub invariant-emit_packed_pairs-loop-key : goal.invariant-emit_packed_pairs-loop-key
invariant-emit_packed_pairs-loop-key g l =
    (goal.iterator-emit_packed_pairs-loop-key g).can_next l.key-iterator × (goal.iterator-emit_packed_pairs-loop-key g).is_finite l.key-iterator
    × (i : ℕ) × (drop i (pairs_left l.fn.members) ≡ pairs_left l.key-iterator)
    × (g.E.Events.state l.out ≡ after_all g.E.Events.after (g.E.Events.state l.fn.out) (object_front (pairs_left l.fn.members) i))
    × (g.E.Events.failed l.out ≡ None) × (g.E.Events.failed l.fn.out ≡ None)
