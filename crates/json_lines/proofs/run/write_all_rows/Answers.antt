use Rattle.json_lines.specs.Rows.{HasWithin}
use Rattle.json_lines.proofs.HeaderRows.{rows_after, rows_failed, header_failed}
use Rattle.json_lines.proofs.run.write_all_rows.Goals as goal

pub returns-in-Ok-clause-ok : goal.returns-in-Ok-clause-ok
returns-in-Ok-clause-ok g c =
    let rows = c.args.rows.now in
    rows_after (HasWithin 1048576 (g.R.RowWriter.has_outcome rows)) (g.R.RowWriter.strict rows) (g.R.RowWriter.header rows) _ _ _ (g.K.Sink.state c.write_header.new.sink) _ _ _ c.write_lines.new.tally c.in-Ok.field-0 c.in-Ok.ensures
    c.write_lines.result c.write_lines.ensures.ok

pub returns-in-Ok-clause-err : goal.returns-in-Ok-clause-err
returns-in-Ok-clause-err g c =
    let rows = c.args.rows.now in
    rows_failed (HasWithin 1048576 (g.R.RowWriter.has_outcome rows)) (g.R.RowWriter.strict rows) (g.R.RowWriter.header rows) _ _ _ (g.K.Sink.state c.write_header.new.sink) _ _ _ c.write_lines.new.tally c.in-Ok.field-0 c.in-Ok.ensures
    c.write_lines.result c.write_lines.ensures.err

pub returns-in-Err-clause-err : goal.returns-in-Err-clause-err
returns-in-Err-clause-err g c =
    let rows = c.args.rows.now in
    header_failed (HasWithin 1048576 (g.R.RowWriter.has_outcome rows)) (g.R.RowWriter.strict rows) (g.R.RowWriter.header rows) _ _ _ _ c.args.tally.now c.in-Err.error c.requires.unmuted c.in-Err.ensures
