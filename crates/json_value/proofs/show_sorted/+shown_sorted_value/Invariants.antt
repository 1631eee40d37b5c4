use Rattle.std.proofs.Common.{◌+◌, ◌*◌, drop, map}
use Rattle.json_grammar.specs.Sizes.{nodes, trees_nodes, pairs_nodes}
use Rattle.json_grammar.specs.Tree.{list, list_trees, pairs, list_pairs}
use Rattle.json_model.specs.Print.{shown}
use Rattle.json_model.specs.Sort.{sorted}
use Rattle.json_value.specs.Denotes.{tree_of, pair_of}
use Rattle.json_doc_print.specs.KeyOrder.{numbers_in}
use Rattle.json_value.specs.OwnedKeys.{owned_key}
use Rattle.json_value.proofs.OwnedOrders.{owned_tree}
use Rattle.json_doc_print.proofs.KeyOrders.{paired, sorted_at, sorted_pair}
use Rattle.json_doc_print.proofs.ShownTrees.{held, elements_left, members_left}
use Rattle.json_doc_print.proofs.SortedTrees.{GoesSorted}
use Rattle.json_value.proofs.show_sorted.+shown_sorted_value.Given as goal

abbrev pub decreases-show_sorted_value : goal.decreases-show_sorted_value
decreases-show_sorted_value g l = 3 * nodes (tree_of l.value.now)

abbrev pub decreases-show_sorted_item : goal.decreases-show_sorted_item
decreases-show_sorted_item g l = 3 * nodes (tree_of l.value.now) + 1

abbrev pub decreases-show_sorted_values : goal.decreases-show_sorted_values
decreases-show_sorted_values g l = 3 * trees_nodes (list_trees (map tree_of l.values.now.items)) + 2

abbrev pub decreases-show_sorted_pairs : goal.decreases-show_sorted_pairs
decreases-show_sorted_pairs g l = 3 * pairs_nodes (list_pairs (map pair_of l.values.now.items)) + 2

abbrev pub decreases-show_in_place : goal.decreases-show_in_place
decreases-show_in_place g l = 3 * pairs_nodes (list_pairs (map pair_of l.values.now.items)) + 1

abbrev pub decreases-show_by_numbers : goal.decreases-show_by_numbers
decreases-show_by_numbers g l = 3 * pairs_nodes (list_pairs (map pair_of l.values.now.items)) + 1

abbrev pub invariant-show_sorted_values-loop-value : goal.invariant-show_sorted_values-loop-value
invariant-show_sorted_values-loop-value g l =
    let i = g.L.Layout.indent l.layout.inner in let ts = map tree_of l.fn.values.items in
    GoesSorted (held g.W.Sink.state l.fn.out) (held g.W.Sink.state l.out) (elements_left i l.level (l.level + 1) l.first (map sorted (drop l.value-index ts))) (shown i l.level (sorted (list (list_trees ts))))

abbrev pub invariant-show_in_place-loop-pair : goal.invariant-show_in_place-loop-pair
invariant-show_in_place-loop-pair g l =
    let i = g.L.Layout.indent l.layout.inner in let ps = map pair_of l.fn.values.items in
    GoesSorted (held g.W.Sink.state l.fn.out) (held g.W.Sink.state l.out) (members_left i l.level (l.level + 1) l.first (map sorted_pair (drop l.pair-index ps))) (shown i l.level (sorted (pairs (list_pairs ps))))

abbrev pub invariant-show_by_numbers-loop-entry : goal.invariant-show_by_numbers-loop-entry
invariant-show_by_numbers-loop-entry g l =
    let i = g.L.Layout.indent l.layout.inner in let xs = l.fn.values.items in let qs = map (paired (owned_key xs) (sorted_at (owned_tree xs))) (numbers_in l.entry-items) in
    GoesSorted (held g.W.Sink.state l.fn.out) (held g.W.Sink.state l.out) (members_left i l.level (l.level + 1) l.first (drop l.entry-index qs)) (shown i l.level (sorted (pairs (list_pairs (map pair_of xs)))))
