use Rattle.std.proofs.Common.{◌<◌, sym, subst, ap, ◌∙◌, lit<}
use Rattle.mezdruk_files.specs.EditedTexts.{EditsDocument, FailsToEdit}
use Rattle.mezdruk_files.specs.Outcomes.{task_of}
use Rattle.mezdruk_files.proofs.EditedTexts.{edits_from, found_for, fails_as, kept}
use Rattle.mezdruk_files.proofs.edited_text.edit_document.Goals as goal

pub returns-clause-done : goal.returns-clause-done
returns-clause-done g c =
    λ low.
    let d = c.args.document.now in
    let style = c.find_style.result in
    let found = found_for _ _ _ _ style c.bytes_of-bytes.ensures c.sorts_members.ensures c.find_style.ensures in
    let edits = edits_from (task_of g.C.ValueChange.changed c.in_style-job.result) d c.from_ref.result.now _ _ (g.E.Sink.state c.args.errs.now) (g.E.Sink.state c.print_documents-status.new.errs) c.into_vec.result.items c.with_end_of-text.result.items c.bytes_of-bytes.result.now _
    c.from_ref.ensures.value (ap (λ s. s.gained) c.new-sink.ensures) c.into_vec.ensures c.bytes_of-bytes.ensures c.with_end_of-text.ensures (c.print_documents-status.ensures.done low) in
    (style, found, subst (λ j. EditsDocument (task_of g.C.ValueChange.changed j) d (g.E.Sink.state c.args.errs.now) (g.E.Sink.state c.print_documents-status.new.errs) c.with_end_of-text.result.items c.print_documents-status.result) c.in_style-job.ensures edits)

pub returns-clause-failed : goal.returns-clause-failed
returns-clause-failed g c =
    λ high.
    let d = c.args.document.now in
    let found = found_for _ _ _ _ c.find_style.result c.bytes_of-bytes.ensures c.sorts_members.ensures c.find_style.ensures in
    let fails = fails_as (task_of g.C.ValueChange.changed c.in_style-job.result) d c.from_ref.result.now _ _ (g.E.Sink.state c.args.errs.now) (g.E.Sink.state c.print_documents-status.new.errs) _ c.from_ref.ensures.value (c.print_documents-status.ensures.failed high) in
    (c.find_style.result, found, subst (λ j. FailsToEdit (task_of g.C.ValueChange.changed j) d (g.E.Sink.state c.args.errs.now) (g.E.Sink.state c.print_documents-status.new.errs) c.print_documents-status.result) c.in_style-job.ensures fails)

pub returns-clause-kept : goal.returns-clause-kept
returns-clause-kept g c =
    λ zero one.
    let done = returns-clause-done g c (subst (λ n. n < 5) (sym zero) (lit< tt)) in
    kept g.C.ValueChange.changed c.args.job.now _ done.0 c.args.document.now _ _ _ _ done.1 done.2 zero one
