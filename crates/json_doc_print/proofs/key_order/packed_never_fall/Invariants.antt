use Rattle.json_grammar.specs.Tree.{list_pairs}
use Rattle.json_model.specs.Sort.{NeverFall}
use Rattle.json_doc.specs.Left.{pairs_left}
use Rattle.json_doc_print.proofs.KeyOrders.{NoneFalls}
use Rattle.json_doc_print.proofs.key_order.packed_never_fall.Given as goal

abbrev pub invariant-loop-key : goal.invariant-loop-key
invariant-loop-key l =
    (goal.iterator-loop-key).can_next l.key-iterator × (goal.iterator-loop-key).is_finite l.key-iterator
    × (NoneFalls l.last (pairs_left l.key-iterator) → NeverFall (list_pairs (pairs_left l.fn.pairs)))
