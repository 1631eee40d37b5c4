use Rattle.std.proofs.Common.{◌≡◌, ◌++◌}
use Rattle.json_doc.specs.Left.{places_of_pairs}
use Rattle.json_doc_print.specs.KeyOrder.{AreEntries, numbers_in, key_before}
use Rattle.json_doc_print.proofs.key_order.entries_of_doc.Given as goal

abbrev pub invariant-loop-value : goal.invariant-loop-value
invariant-loop-value l =
    (goal.iterator-loop-value).can_next l.value-iterator × (goal.iterator-loop-value).is_finite l.value-iterator
    × (numbers_in l.entries.items ++ places_of_pairs l.value-iterator ≡ places_of_pairs l.fn.pairs) × AreEntries (key_before l.fn.doc) l.entries.items
