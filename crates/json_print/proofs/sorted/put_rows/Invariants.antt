use Rattle.std.proofs.Common.{◌-◌, ◌≤◌, length}
use Rattle.json_print.specs.Printer.{rows_sorted}
use Rattle.json_print.proofs.RowPieces.{HasPutRows}
use Rattle.json_print.proofs.sorted.put_rows.Given as goal

abbrev pub invariant-rows : goal.invariant-rows
invariant-rows g l =
    let m = g.F.Formatter.form in
    record { within : l.at ≤ length l.order; put : HasPutRows m l.fn.formatter (g.W.Sink.state l.fn.writer) (g.W.Sink.state l.writer) l.formatter (rows_sorted l.object.rows) l.at }

abbrev pub decreases-rows : goal.decreases-rows
decreases-rows g l = length l.order - l.at
