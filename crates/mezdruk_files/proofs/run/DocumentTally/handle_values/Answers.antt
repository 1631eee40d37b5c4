use Rattle.std.proofs.Common.{IsUtf8, subst, sym}
use Rattle.std.proofs.lemmas.Str.{IsCharBoundary-start}
use Rattle.std.proofs.lemmas.Result.{on_ok_weaker, IfErr-weaker}
use Rattle.mezdruk_files.specs.Outcomes.{task_of}
use Rattle.mezdruk_files.proofs.HandledStreams.{handles_values, values_stops, handles_no_text, no_text_stops}
use Rattle.mezdruk_files.proofs.run.DocumentTally.handle_values.Goals as goal

pub returns-in-Ok-clause-ok : goal.returns-in-Ok-clause-ok
returns-in-Ok-clause-ok g c =
    on_ok_weaker c.handle_text.result
    (handles_values (task_of g.C.ValueChange.changed c.args.job.now) c.args.whole.name.now c.args.whole.bytes.now c.args.self.now c.handle_text.new.self _ _ _ _ _ c.in-Ok.ensures.ok c.in-Ok.ensures.few c.in-Ok.ensures.utf8) c.handle_text.ensures.ok

pub returns-in-Ok-clause-err : goal.returns-in-Ok-clause-err
returns-in-Ok-clause-err g c =
    IfErr-weaker c.handle_text.result _ _
    (values_stops (task_of g.C.ValueChange.changed c.args.job.now) c.args.whole.name.now c.args.whole.bytes.now c.args.self.now c.handle_text.new.self _ _ _ _ _ c.in-Ok.ensures.ok c.in-Ok.ensures.few c.in-Ok.ensures.utf8) c.handle_text.ensures.err

pub returns-in-Err-clause-ok : goal.returns-in-Err-clause-ok
returns-in-Err-clause-ok g c =
    on_ok_weaker c.report_error.result
    (handles_no_text (task_of g.C.ValueChange.changed c.args.job.now) c.args.whole.name.now c.args.whole.bytes.now c.args.self.now c.report_error.new.self _ _ _ c.in-Err.error _ c.requires c.in-Err.ensures.err) c.report_error.ensures.ok

pub returns-in-Err-clause-err : goal.returns-in-Err-clause-err
returns-in-Err-clause-err g c =
    IfErr-weaker c.report_error.result _ _ (no_text_stops (task_of g.C.ValueChange.changed c.args.job.now) c.args.whole.name.now c.args.whole.bytes.now c.args.self.now c.report_error.new.self _ _ _) c.report_error.ensures.err

pub handle_text-requires : goal.handle_text-requires
handle_text-requires g c = IsCharBoundary-start c.in-Ok.text.now (subst IsUtf8 (sym c.in-Ok.ensures.ok) c.in-Ok.ensures.utf8)
