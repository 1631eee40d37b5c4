use Rattle.std.proofs.Common.{◌≡◌}
use Rattle.json_doc_print.specs.KeyOrder.{AreEntries, numbers_in}
use Rattle.json_value.specs.OwnedKeys.{numbers_from, owned_key}
use Rattle.json_value.proofs.key_order.entries_of_pairs.Given as goal

abbrev pub invariant-loop-number : goal.invariant-loop-number
invariant-loop-number l = (numbers_in l.entries.items ≡ numbers_from 0 l.number) × AreEntries (owned_key l.fn.pairs.items) l.entries.items
