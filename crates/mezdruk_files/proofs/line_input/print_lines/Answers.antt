use Rattle.std.proofs.Common.{inl, inr, refl, ap, ◌∙◌}
use Rattle.json_command.specs.Statuses.{status_number}
use Rattle.json_io.specs.Errors.{writing_failed}
use Rattle.mezdruk_files.proofs.Handled.{not_high, not_small}
use Rattle.mezdruk_files.proofs.HandledInputs.{prints_input, input_status, prints_part, part_status}
use Rattle.mezdruk_files.proofs.SmallStatuses.{reported_status}
use Rattle.mezdruk_files.proofs.TextWriting.{ok_no_error}
use Rattle.mezdruk_files.proofs.line_input.print_lines.Goals as goal

pub returns-in-Ok-clause-done : goal.returns-in-Ok-clause-done
returns-in-Ok-clause-done g c = λ low. prints_input _ _ _ _ _ _ _ _ _ _ _ refl c.in-Ok.ensures.ok

pub returns-in-Ok-clause-failed : goal.returns-in-Ok-clause-failed
returns-in-Ok-clause-failed g c = λ big. absurd (not_small _ (input_status _ _ _ _ _ _ _ _ _ _ c.in-Ok.ensures.ok) big)

pub returns-in-Ok-clause-known : goal.returns-in-Ok-clause-known
returns-in-Ok-clause-known g c = inl (input_status _ _ _ _ _ _ _ _ _ _ c.in-Ok.ensures.ok)

pub returns-in-Ok-clause-write_error : goal.returns-in-Ok-clause-write_error
returns-in-Ok-clause-write_error g c = λ l. absurd (ok_no_error _ writing_failed (c.in-Ok.ensures.reported l))

pub returns-clause-done : goal.returns-clause-done
returns-clause-done g c = λ low. absurd (not_high _ low (part_status _ _ _ _ _ _ _ _ _ _ c.in-Err.error _ (c.number.ensures ∙ ap status_number c.of_error.ensures) c.in-Err.ensures.err))

pub returns-clause-failed : goal.returns-clause-failed
returns-clause-failed g c =
    λ big. prints_part _ _ _ _ _ _ _ _ _ (g.E.Sink.state c.handle_input.new.errs) (g.E.Sink.state c.report_unless_muted.new.errs) c.in-Err.error _ (c.number.ensures ∙ ap status_number c.of_error.ensures) c.in-Err.ensures.err c.report_unless_muted.ensures.reported
    c.report_unless_muted.ensures.silent

pub returns-clause-known : goal.returns-clause-known
returns-clause-known g c = inr (part_status _ _ _ _ _ _ _ _ _ _ c.in-Err.error _ (c.number.ensures ∙ ap status_number c.of_error.ensures) c.in-Err.ensures.err)

pub returns-clause-write_error : goal.returns-clause-write_error
returns-clause-write_error g c = λ l. c.number.ensures ∙ ap status_number c.of_error.ensures ∙ reported_status c.in-Err.error (c.in-Err.ensures.reported l)
