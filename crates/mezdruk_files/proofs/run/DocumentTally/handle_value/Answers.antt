use Rattle.std.proofs.Common.{ap, ◌∙◌, refl}
use Rattle.mezdruk_files.specs.Outcomes.{task_of}
use Rattle.mezdruk_files.specs.Parts.{whole_part}
use Rattle.mezdruk_files.specs.Streams.{stream_value_place}
use Rattle.mezdruk_files.proofs.HandledStreams.{value_printed, value_refused, fault_reported, value_none, value_stops}
use Rattle.mezdruk_files.proofs.run.DocumentTally.handle_value.Goals as goal

pub returns-in-Ok-handle_fault-clause-ok : goal.returns-in-Ok-handle_fault-clause-ok
returns-in-Ok-handle_fault-clause-ok g c =
    let p = c.args.place in
    fault_reported (task_of g.C.ValueChange.changed c.args.job.now) (stream_value_place p) c.in-Err.error _ c.args.self.now c.handle_fault.new.self _ _ _ (c.whole_part-whole.ensures ∙ ap (whole_part p.name.now) c.as_bytes.ensures.value)
    (c.in-Ok-handle_fault.ensures.fault p.text.now p.offset c.in-Err.ensures.err) c.in-Ok-handle_fault.ensures.ok

pub returns-in-Err-handle_fault-clause-err : goal.returns-in-Err-handle_fault-clause-err
returns-in-Err-handle_fault-clause-err g c =
    let k = c.in-Err-handle_fault.ensures.err in
    value_none (task_of g.C.ValueChange.changed c.args.job.now) (stream_value_place c.args.place) c.args.self.now c.handle_fault.new.self _ _ _ _ c.in-Err-handle_fault.error k.only refl k.kept k.silent

pub returns-in-Ok-None-clause-ok : goal.returns-in-Ok-None-clause-ok
returns-in-Ok-None-clause-ok g c =
    value_printed (task_of g.C.ValueChange.changed c.args.job.now) (stream_value_place c.args.place) _ c.in-Ok.read.1 c.args.self.now _ _ _ c.in-Ok.ensures.ok (rw c.in-Ok-None.field-0-is at c.in-Ok-None.ensures.ok)

pub returns-in-Err-print_changed-clause-err : goal.returns-in-Err-print_changed-clause-err
returns-in-Err-print_changed-clause-err g c =
    value_stops (task_of g.C.ValueChange.changed c.args.job.now) (stream_value_place c.args.place) _ c.in-Ok.read.1 c.args.self.now _ _ _ c.in-Err-print_changed.error c.in-Ok.ensures.ok c.in-Err-print_changed.ensures.err

pub returns-in-Ok-report_error-clause-ok : goal.returns-in-Ok-report_error-clause-ok
returns-in-Ok-report_error-clause-ok g c =
    value_refused (task_of g.C.ValueChange.changed c.args.job.now) (stream_value_place c.args.place) _ c.in-Ok.read.1 c.in-Ok-Some.error _ c.args.self.now c.report_error.new.self _ _ _ _ c.value_part-part.ensures c.in-Ok.ensures.ok
    (rw c.in-Ok-Some.field-0-is at c.in-Ok-Some.ensures.ok) c.in-Ok-report_error.ensures.ok

pub returns-clause-err : goal.returns-clause-err
returns-clause-err g c =
    let k = c.in-Err-report_error.ensures.err in
    let same = rw c.in-Ok-Some.field-0-is at c.in-Ok-Some.ensures.ok in
    value_none (task_of g.C.ValueChange.changed c.args.job.now) (stream_value_place c.args.place) c.args.self.now c.report_error.new.self _ _ _ _ c.in-Err-report_error.error k.only same.1 k.kept k.silent
