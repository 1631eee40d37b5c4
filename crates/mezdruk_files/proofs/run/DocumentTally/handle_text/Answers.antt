use Rattle.std.proofs.Common.{ap, arith, refl}
use Rattle.mezdruk_files.specs.Outcomes.{task_of}
use Rattle.mezdruk_files.proofs.HandledStreams.{stream_none, stream_next, stream_unsent, stream_stops, stream_fails, stream_fails_unsent, stream_ends, stream_ends_unsent, space_left, more_left}
use Rattle.json_io.specs.Errors.{writing_failed}
use Rattle.mezdruk_files.proofs.TextWriting.{ok_no_error, reported_then}
use Rattle.mezdruk_files.proofs.run.DocumentTally.handle_text.Goals as goal

pub values-init : goal.values-init
values-init g c =
    record {
      so_far = stream_none (task_of g.C.ValueChange.changed c.args.job.now) c.args.start.name.now c.args.start.text.now c.args.self.now _ _ _ (ap (λ s. s.gained) c.new-block.ensures);
      boundary = c.requires;
      within = omega arith;
      counted = omega arith;
    }

pub values-preserved : goal.values-preserved
values-preserved g c =
    let next = rw c.in-Ok-Some.field-0-is at c.in-Ok-Some.ensures.next in
    record {
      so_far = stream_next (task_of g.C.ValueChange.changed c.args.job.now) c.args.start.name.now c.args.start.text.now c.args.self.now _ _ c.values.offset c.values.number c.values.self c.handle_value.new.self _ _ _ _ _ _ _ c.values.invariant.so_far refl c.in-Ok-Some.next _ (rw c.in-Ok-Some.field-0-is at c.in-Ok-Some.ensures.ok) c.in-Ok.ensures.ok;
      boundary = next.boundary;
      within = next.within;
      counted = omega (arith, next.forward, c.values.invariant.counted);
    }

pub returns-in-Ok-None-clause-ok : goal.returns-in-Ok-None-clause-ok
returns-in-Ok-None-clause-ok g c =
    stream_fails (task_of g.C.ValueChange.changed c.args.job.now) c.args.start.name.now c.args.start.text.now c.args.self.now _ _ c.values.offset c.values.number c.values.self c.handle_value.new.self _ _ _ _ _ _ _ c.values.invariant.so_far c.as_slice.ensures c.write_text.result
    (more_left c.args.start.text.now _ c.values.offset c.ws_run.result c.as_bytes.ensures.value c.ws_run.ensures.ends.order c.values-test.true c.ws_run.ensures.ends.stop)
    (rw c.in-Ok-None.field-0-is at c.in-Ok-None.ensures.ok) c.write_text.ensures.prints

pub returns-in-Ok-None-clause-err : goal.returns-in-Ok-None-clause-err
returns-in-Ok-None-clause-err g c =
    stream_fails_unsent (task_of g.C.ValueChange.changed c.args.job.now) c.args.start.name.now c.args.start.text.now c.args.self.now _ _ c.values.offset c.values.number c.values.self c.handle_value.new.self _ _ _ _ _ _ _ c.values.invariant.so_far c.as_slice.ensures c.write_text.result
    (more_left c.args.start.text.now _ c.values.offset c.ws_run.result c.as_bytes.ensures.value c.ws_run.ensures.ends.order c.values-test.true c.ws_run.ensures.ends.stop)
    (rw c.in-Ok-None.field-0-is at c.in-Ok-None.ensures.ok) c.write_text.ensures.prints

pub returns-in-Ok-None-clause-reported : goal.returns-in-Ok-None-clause-reported
returns-in-Ok-None-clause-reported g c = reported_then (g.K.Sink.state c.args.sink.now) (g.K.Sink.state c.values.sink) (g.K.Sink.state c.write_text.new.sink) _ tt _ c.values.invariant.so_far.held.output c.write_text.ensures.prints.reported

pub returns-in-Err-clause-err : goal.returns-in-Err-clause-err
returns-in-Err-clause-err g c =
    stream_stops (task_of g.C.ValueChange.changed c.args.job.now) c.args.start.name.now c.args.start.text.now c.args.self.now _ _ c.values.offset c.values.number c.values.self c.handle_value.new.self (g.K.Sink.state c.values.sink) (g.K.Sink.state c.values.sink) _ _ _ _ _ c.values.invariant.so_far refl c.in-Err.error refl c.in-Err.ensures.err

pub returns-in-Err-clause-reported : goal.returns-in-Err-clause-reported
returns-in-Err-clause-reported g c = λ l. absurd (ok_no_error tt writing_failed (c.values.invariant.so_far.held.output.reported l))

pub returns-in-Err-write_if_long-clause-err : goal.returns-in-Err-write_if_long-clause-err
returns-in-Err-write_if_long-clause-err g c =
    let k = c.in-Err-write_if_long.ensures.err in
    stream_unsent (task_of g.C.ValueChange.changed c.args.job.now) c.args.start.name.now c.args.start.text.now c.args.self.now _ _ c.values.offset c.values.number c.values.self c.handle_value.new.self _ _ _ _ _ _ _ c.values.invariant.so_far refl c.in-Ok-Some.next k.0 c.in-Err-write_if_long.error
    (rw c.in-Ok-Some.field-0-is at c.in-Ok-Some.ensures.ok) k.1 k.2

pub returns-in-Err-write_if_long-clause-reported : goal.returns-in-Err-write_if_long-clause-reported
returns-in-Err-write_if_long-clause-reported g c = reported_then (g.K.Sink.state c.args.sink.now) (g.K.Sink.state c.values.sink) (g.K.Sink.state c.write_if_long.new.sink) _ tt _ c.values.invariant.so_far.held.output c.in-Err-write_if_long.ensures.err.2.reported

pub returns-clause-ok : goal.returns-clause-ok
returns-clause-ok g c =
    stream_ends (task_of g.C.ValueChange.changed c.args.job.now) c.args.start.name.now c.args.start.text.now c.args.self.now _ _ c.values.offset c.values.number c.values.self _ _ _ _ _ c.values.invariant.so_far c.as_slice-2.ensures
    (space_left c.args.start.text.now _ c.values.offset c.ws_run.result c.as_bytes.ensures.value c.values-test.false c.ws_run.ensures.ends.within c.ws_run.ensures.ends.run) c.write_text-2.result c.write_text-2.ensures.prints

pub returns-clause-err : goal.returns-clause-err
returns-clause-err g c =
    stream_ends_unsent (task_of g.C.ValueChange.changed c.args.job.now) c.args.start.name.now c.args.start.text.now c.args.self.now _ _ c.values.offset c.values.number c.values.self _ _ _ _ _ c.values.invariant.so_far c.as_slice-2.ensures
    (space_left c.args.start.text.now _ c.values.offset c.ws_run.result c.as_bytes.ensures.value c.values-test.false c.ws_run.ensures.ends.within c.ws_run.ensures.ends.run) c.write_text-2.result c.write_text-2.ensures.prints

pub returns-clause-reported : goal.returns-clause-reported
returns-clause-reported g c = reported_then (g.K.Sink.state c.args.sink.now) (g.K.Sink.state c.values.sink) (g.K.Sink.state c.write_text-2.new.sink) _ tt _ c.values.invariant.so_far.held.output c.write_text-2.ensures.prints.reported
