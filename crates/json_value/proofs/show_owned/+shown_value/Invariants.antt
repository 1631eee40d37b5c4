use Rattle.std.proofs.Common.{◌+◌, ◌*◌, drop, map}
use Rattle.json_grammar.specs.Sizes.{nodes, trees_nodes, pairs_nodes}
use Rattle.json_grammar.specs.Tree.{list, list_trees, pairs, list_pairs}
use Rattle.json_model.specs.Print.{shown}
use Rattle.json_value.specs.Denotes.{tree_of, pair_of}
use Rattle.json_doc_print.proofs.ShownTrees.{Goes, held, elements_left, members_left}
use Rattle.json_value.proofs.show_owned.+shown_value.Given as goal

abbrev pub decreases-show_value : goal.decreases-show_value
decreases-show_value g l = 3 * nodes (tree_of l.value.now)

abbrev pub decreases-show_owned_element : goal.decreases-show_owned_element
decreases-show_owned_element g l = 3 * nodes (tree_of l.value.now) + 1

abbrev pub decreases-show_values : goal.decreases-show_values
decreases-show_values g l = 3 * trees_nodes (list_trees (map tree_of l.values.now.items)) + 2

abbrev pub decreases-show_owned_pairs : goal.decreases-show_owned_pairs
decreases-show_owned_pairs g l = 3 * pairs_nodes (list_pairs (map pair_of l.values.now.items)) + 2

abbrev pub invariant-show_values-loop-value : goal.invariant-show_values-loop-value
invariant-show_values-loop-value g l =
    let i = g.L.Layout.indent l.layout in let ts = map tree_of l.fn.values.items in
    Goes l.level (l.level + 1) (held g.W.Sink.state l.fn.out) (held g.W.Sink.state l.out) (elements_left i l.level (l.level + 1) l.first (drop l.value-index ts)) (shown i l.level (list (list_trees ts)))

abbrev pub invariant-show_owned_pairs-loop-pair : goal.invariant-show_owned_pairs-loop-pair
invariant-show_owned_pairs-loop-pair g l =
    let i = g.L.Layout.indent l.layout in let ps = map pair_of l.fn.values.items in
    Goes l.level (l.level + 1) (held g.W.Sink.state l.fn.out) (held g.W.Sink.state l.out) (members_left i l.level (l.level + 1) l.first (drop l.pair-index ps)) (shown i l.level (pairs (list_pairs ps)))
