use Rattle.std.proofs.lemmas.Result.{on_ok_weaker, IfErr-weaker}
use Rattle.mezdruk_files.specs.Outcomes.{task_of}
use Rattle.mezdruk_files.specs.Parts.{part_view}
use Rattle.mezdruk_files.proofs.Handled.{handles_printed, handles_refused, reporting_stops, printing_stops}
use Rattle.mezdruk_files.proofs.run.DocumentTally.handle_part.Goals as goal

pub returns-in-Ok-None-clause-ok : goal.returns-in-Ok-None-clause-ok
returns-in-Ok-None-clause-ok g c =
    handles_printed (task_of g.C.ValueChange.changed c.args.job.now) (part_view c.args.part) c.args.self.now _ _ _ (rw c.in-Ok-None.field-0-is at c.in-Ok-None.ensures.ok)

pub returns-in-Ok-Some-clause-ok : goal.returns-in-Ok-Some-clause-ok
returns-in-Ok-Some-clause-ok g c =
    on_ok_weaker c.report_error.result
    (handles_refused (task_of g.C.ValueChange.changed c.args.job.now) (part_view c.args.part) c.in-Ok-Some.error c.args.self.now c.report_error.new.self _ _ _ _ (rw c.in-Ok-Some.field-0-is at c.in-Ok-Some.ensures.ok))
    c.report_error.ensures.ok

pub returns-in-Ok-Some-clause-err : goal.returns-in-Ok-Some-clause-err
returns-in-Ok-Some-clause-err g c =
    IfErr-weaker c.report_error.result _ _
    (λ e. reporting_stops (task_of g.C.ValueChange.changed c.args.job.now) (part_view c.args.part) e c.in-Ok-Some.error c.args.self.now c.report_error.new.self _ _ _ _ (rw c.in-Ok-Some.field-0-is at c.in-Ok-Some.ensures.ok))
    c.report_error.ensures.err

pub returns-in-Err-clause-err : goal.returns-in-Err-clause-err
returns-in-Err-clause-err g c = printing_stops (task_of g.C.ValueChange.changed c.args.job.now) (part_view c.args.part) c.args.self.now _ _ _ c.in-Err.error c.in-Err.ensures.err
