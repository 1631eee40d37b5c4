use Rattle.std.proofs.Common.{arith, ◌∙◌}
use Rattle.std.proofs.lemmas.List.{get_or_default}
use Rattle.json_print.specs.Printer.{rows_sorted}
use Rattle.json_print.proofs.Numbering.{number_within, next_row, sorted_length}
use Rattle.json_print.proofs.RowPieces.{more_rows, row_failed, all_rows}
use Rattle.json_print.proofs.sorted.put_rows.Goals as goal

pub row-row-requires : goal.row-row-requires
row-row-requires g c = number_within c.args.object.now.rows c.args.order.now c.requires c.rows.at _ c.rows-test.true (get_or_default c.args.order.now c.rows.at _ _ c.rows-test.true)

pub returns-in-Err-clause-puts : goal.returns-in-Err-clause-puts
returns-in-Err-clause-puts g c =
    let m = g.F.Formatter.form in
    let there = next_row c.args.object.now.rows c.args.order.now c.requires c.rows.at _ c.rows-test.true (get_or_default c.args.order.now c.rows.at _ _ c.rows-test.true) in
    row_failed m _ _ _ _ _ _ c.rows.at _ _ c.rows.invariant.put (there ∙ c.row-row.ensures) c.in-Err.ensures.puts

pub rows-preserved : goal.rows-preserved
rows-preserved g c =
    let m = g.F.Formatter.form in
    let there = next_row c.args.object.now.rows c.args.order.now c.requires c.rows.at _ c.rows-test.true (get_or_default c.args.order.now c.rows.at _ _ c.rows-test.true) in
    record { within = omega arith; put = more_rows m _ _ _ _ _ _ _ c.rows.at _ c.rows.invariant.put (there ∙ c.row-row.ensures) c.in-Ok.ensures.puts c.in-Ok.ensures.next }

pub returns-clause-puts : goal.returns-clause-puts
returns-clause-puts g c =
    let m = g.F.Formatter.form in
    (all_rows m _ _ _ _ (rows_sorted c.args.object.now.rows) c.rows.at (omega (arith, sorted_length c.args.object.now.rows c.args.order.now c.requires)) c.rows.invariant.put).0

pub returns-clause-next : goal.returns-clause-next
returns-clause-next g c =
    let m = g.F.Formatter.form in
    (all_rows m _ _ _ _ (rows_sorted c.args.object.now.rows) c.rows.at (omega (arith, sorted_length c.args.object.now.rows c.args.order.now c.requires)) c.rows.invariant.put).1
