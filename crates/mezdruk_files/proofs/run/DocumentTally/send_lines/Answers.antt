use Rattle.std.proofs.Common.{true, false, refl, ap}
use Rattle.std.proofs.lemmas.Result.{on_ok_weaker, IfErr-weaker}
use Rattle.json_io.specs.Errors.{writing_failed}
use Rattle.mezdruk_files.specs.Outcomes.{task_of, LineOutcome, PartsHave}
use Rattle.mezdruk_files.specs.Parts.{part_view, parts_of_lines}
use Rattle.mezdruk_files.proofs.Blocks.{sent, sent_stops, unsent_either}
use Rattle.mezdruk_files.proofs.TextWriting.{ok_no_error}
use Rattle.mezdruk_files.proofs.WholeLines.{parts_weaker}
use Rattle.mezdruk_files.proofs.run.DocumentTally.send_lines.Goals as goal

pub returns-in-Ok-clause-ok : goal.returns-in-Ok-clause-ok
returns-in-Ok-clause-ok g c =
    on_ok_weaker c.handle_lines-handled.result
    (λ h. sent _ c.args.self.now c.handle_lines-handled.new.self _ _ _ _ _ (ap (λ s. s.gained) c.new-block.ensures) c.as_slice.ensures refl _ _ _ h c.in-Ok.ensures.prints)
    c.handle_lines-handled.ensures.ok

pub returns-in-Ok-clause-err : goal.returns-in-Ok-clause-err
returns-in-Ok-clause-err g c =
    IfErr-weaker c.handle_lines-handled.result _ _
    (λ error h. sent_stops _ c.args.self.now c.handle_lines-handled.new.self _ _ _ _ _ (ap (λ s. s.gained) c.new-block.ensures) c.as_slice.ensures refl _ _ _ error h c.in-Ok.ensures.prints)
    c.handle_lines-handled.ensures.err

pub returns-in-Ok-clause-reported : goal.returns-in-Ok-clause-reported
returns-in-Ok-clause-reported g c = λ l. absurd (ok_no_error _ writing_failed (c.in-Ok.ensures.prints.reported l))

pub returns-clause-err : goal.returns-clause-err
returns-clause-err g c =
    let Has = LineOutcome (task_of g.C.ValueChange.changed c.args.job.now) in
    let parts = parts_of_lines (part_view c.args.lines) in
    unsent_either (PartsHave true Has parts) c.args.self.now c.handle_lines-handled.new.self _ _ _ _ _ (ap (λ s. s.gained) c.new-block.ensures) c.as_slice.ensures refl _ _ (PartsHave false Has parts) c.handle_lines-handled.result c.in-Err.error (parts_weaker Has parts)
    c.handle_lines-handled.ensures.ok c.handle_lines-handled.ensures.err c.in-Err.ensures.prints
