use Rattle.std.proofs.Common.{◌≡◌, None, ◌+◌, ◌*◌, map}
use Rattle.json_grammar.specs.Sizes.{nodes, trees_nodes, pairs_nodes}
use Rattle.json_grammar.specs.Tree.{list_trees, list_pairs}
use Rattle.json_print.specs.Taking.{after_all}
use Rattle.json_value.specs.Denotes.{tree_of, pair_of}
use Rattle.json_doc_print.proofs.TokensGiven.{array_front, object_front}
use Rattle.json_value.proofs.emit.+value.Given as goal

abbrev pub decreases-emit_value : goal.decreases-emit_value
decreases-emit_value g l = 2 * nodes (tree_of l.value.now) + 1

abbrev pub decreases-emit_values : goal.decreases-emit_values
decreases-emit_values g l = 2 * trees_nodes (list_trees (map tree_of l.values.now.items)) + 2

abbrev pub decreases-emit_pairs : goal.decreases-emit_pairs
decreases-emit_pairs g l = 2 * pairs_nodes (list_pairs (map pair_of l.values.now.items)) + 2

abbrev pub invariant-emit_values-loop-value : goal.invariant-emit_values-loop-value
invariant-emit_values-loop-value g l =
    (g.E.Events.state l.out ≡ after_all g.E.Events.after (g.E.Events.state l.fn.out) (array_front (map tree_of l.fn.values.items) l.value-index))
    × (g.E.Events.failed l.out ≡ None) × (g.E.Events.failed l.fn.out ≡ None)

abbrev pub invariant-emit_pairs-loop-pair : goal.invariant-emit_pairs-loop-pair
invariant-emit_pairs-loop-pair g l =
    (g.E.Events.state l.out ≡ after_all g.E.Events.after (g.E.Events.state l.fn.out) (object_front (map pair_of l.fn.values.items) l.pair-index))
    × (g.E.Events.failed l.out ≡ None) × (g.E.Events.failed l.fn.out ≡ None)
