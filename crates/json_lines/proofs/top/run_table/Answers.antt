use Rattle.std.proofs.Common.{inl, inr}
use Rattle.json_lines.specs.Tables.{table_command}
use Rattle.json_lines.proofs.RunResults.{completes-from, fails-from}
use Rattle.json_lines.proofs.top.run_table.Goals as goal

pub returns-in-Ok : goal.returns-in-Ok
returns-in-Ok g c = λ arguments asked. inl (completes-from arguments (table_command c.args.table.now) _ _ c.write_table.new.tally c.done_status.result asked c.in-Ok.ensures.ok c.done_status.ensures)

pub returns-in-Err : goal.returns-in-Err
returns-in-Err g c = λ arguments asked. inr (inr (fails-from arguments (table_command c.args.table.now) _ _ (g.E.Sink.state c.report_unless_muted.new.errs) c.write_table.new.tally c.in-Err.error c.run_status.result asked c.in-Err.ensures.err c.report_unless_muted.ensures.reported c.report_unless_muted.ensures.silent c.run_status.ensures))
