use Rattle.std.proofs.Common.{◌∙◌, rules}
use Rattle.std.proofs.lemmas.Result.{err_from_is_err_and}
use Rattle.json_io.specs.Outside.{SinkState}
use Rattle.json_lines.specs.Cells.{table_header}
use Rattle.json_lines.specs.Outcomes.{HasOutcome}
use Rattle.json_lines.specs.Rows.{HasWithin}
use Rattle.json_lines.specs.Tables.{table_command}
use Rattle.json_lines.proofs.LentSinks.{written_err, short_none}
use Rattle.json_lines.proofs.SinkEnds.{same_sink}
use Rattle.json_lines.proofs.top.write_table.Goals as goal

pub returns-in_err-buffer-clause-err : goal.returns-in_err-buffer-clause-err
returns-in_err-buffer-clause-err g c =
    let p = err_from_is_err_and c.from_residual.result c.from_residual.ensures.1 in
    let command = table_command c.args.table.now in
    rw (p.1, p.2) (short_none (HasWithin 1048576 (HasOutcome command)) command.strict (table_header command) _ _ _ c.args.tally.now _ c.in_err-buffer.ensures.only c.requires.unmuted)

-- the returned sink is the borrowed one
pub returns-clause-err : goal.returns-clause-err
returns-clause-err g c =
    let command = table_command c.args.table.now in
    let has = HasWithin 1048576 (HasOutcome command) in
    let old : SinkState = g.K.Sink.state c.args.sink.now in
    let now : SinkState = g.K.Sink.state c.into_inner-sink.result.now in
    let s = g.S.Source.state c.args.source.now in
    let u = g.S.Source.state c.write_all_rows-outcome.new.source in
    let errs = g.E.Sink.state c.args.errs.now in
    let errs' = g.E.Sink.state c.write_all_rows-outcome.new.errs in
    let t = c.write_all_rows-outcome.new.tally in
    let began = c.with_buffer-writer.ensures.starts ∙ c.new-2.ensures.lent in
    let name = same_sink old now _ _ _ _ c.into_inner-sink.result.ghost_name c.into_inner.ensures.0 began c.write_all_rows-outcome.ensures.loan c.into_inner.ensures.1 c.into_inner-sink.ensures.back in
    let err = written_err has command.strict (table_header command) s u old now errs errs' _ c.into_inner.ensures.0 t _ _ _ c.into_inner-sink.result.ghost_name c.write_all_rows-outcome.result began c.write_all_rows-outcome.ensures.loan c.into_inner.ensures.1 c.into_inner-sink.ensures.back
    c.write_all_rows-outcome.ensures.err in
    search (rules, name, err)
