use Rattle.std.proofs.Common.{◌≡◌, map, take}
use Rattle.json_print.specs.Orders.{numbered_pair}
use Rattle.json_print.specs.Rows.{numbered_rows}
use Rattle.json_print.proofs.sorted.SortedObject.in_order.Given as goal

abbrev pub invariant-loop-number : goal.invariant-loop-number
invariant-loop-number l = map numbered_pair l.order.items ≡ take l.number (numbered_rows 0 l.self.rows)
