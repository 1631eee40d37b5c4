use Rattle.std.proofs.Common.{drop, map}
use Rattle.json_grammar.specs.Tree.{list_pairs}
use Rattle.json_model.specs.Sort.{NeverFall}
use Rattle.json_value.specs.Denotes.{pair_of}
use Rattle.json_doc_print.proofs.KeyOrders.{NoneFalls}
use Rattle.json_value.proofs.key_order.owned_never_fall.Given as goal

abbrev pub invariant-loop-pair : goal.invariant-loop-pair
invariant-loop-pair l = NoneFalls l.last (drop l.pair-index (map pair_of l.fn.pairs.items)) → NeverFall (list_pairs (map pair_of l.fn.pairs.items))
