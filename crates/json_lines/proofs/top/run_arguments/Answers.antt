use Rattle.json_lines.proofs.RunResults.{unasked-from}
use Rattle.json_lines.proofs.top.run_arguments.Goals as goal

pub returns-in-Err : goal.returns-in-Err
returns-in-Err g c = unasked-from c.args.arguments.now _ _ _ (g.E.Sink.state c.report.new.errs) c.in-Err.error c.run_status.result c.report.ensures c.run_status.ensures c.in-Err.ensures.err
