use Rattle.std.proofs.Common.{ap, ◌∙◌, sym, [], Some}
use Rattle.std.specs.Prelude.{option_map}
use Rattle.std.proofs.lemmas.Result.{on_ok_weaker, IfErr-weaker}
use Rattle.mezdruk_files.specs.Outcomes.{task_of}
use Rattle.mezdruk_files.specs.Parts.{part_view, whole_part}
use Rattle.mezdruk_files.proofs.Handled.{handles_unread, unread_stops, handles_bytes, bytes_stop}
use Rattle.mezdruk_files.proofs.run.DocumentTally.handle_document.Goals as goal

pub returns-in-None-clause-ok : goal.returns-in-None-clause-ok
returns-in-None-clause-ok g c =
    on_ok_weaker c.report_error.result
    (handles_unread (task_of g.C.ValueChange.changed c.args.job.now) c.args.document.now _ c.args.self.now c.report_error.new.self _ _ _ c.in-None.is (c.whole_part-in-None.ensures ∙ ap (λ n. whole_part n []) c.as_str-name.ensures.value))
    c.report_error.ensures.ok

pub returns-in-None-clause-err : goal.returns-in-None-clause-err
returns-in-None-clause-err g c =
    IfErr-weaker c.report_error.result _ _ (λ e. unread_stops (task_of g.C.ValueChange.changed c.args.job.now) c.args.document.now c.args.self.now c.report_error.new.self _ _ _ e c.in-None.is) c.report_error.ensures.err

pub returns-in-Some-clause-ok : goal.returns-in-Some-clause-ok
returns-in-Some-clause-ok g c =
    on_ok_weaker c.handle_bytes.result
    (handles_bytes (task_of g.C.ValueChange.changed c.args.job.now) c.args.document.now (part_view c.whole_part.result) c.deref.result.now c.args.self.now c.handle_bytes.new.self _ _ _ _ (c.whole_part.ensures ∙ ap (λ n. whole_part n c.deref.result.now) c.as_str-name.ensures.value)
    (ap (option_map (λ v. v.items)) c.in-Some.is ∙ ap Some (sym c.deref.ensures.value)))
    c.handle_bytes.ensures.ok

pub returns-in-Some-clause-err : goal.returns-in-Some-clause-err
returns-in-Some-clause-err g c =
    IfErr-weaker c.handle_bytes.result _ _
    (bytes_stop (task_of g.C.ValueChange.changed c.args.job.now) c.args.document.now (part_view c.whole_part.result) c.deref.result.now c.args.self.now c.handle_bytes.new.self _ _ _ _ (c.whole_part.ensures ∙ ap (λ n. whole_part n c.deref.result.now) c.as_str-name.ensures.value)
    (ap (option_map (λ v. v.items)) c.in-Some.is ∙ ap Some (sym c.deref.ensures.value)))
    c.handle_bytes.ensures.err
