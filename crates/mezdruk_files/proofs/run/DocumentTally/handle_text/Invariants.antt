use Rattle.std.proofs.Common.{◌≤◌, ◌-◌, length}
use Rattle.std.specs.Str.{IsCharBoundary}
use Rattle.json_io.specs.Sinks.{vec_sink_state}
use Rattle.mezdruk_files.specs.Outcomes.{task_of}
use Rattle.mezdruk_files.proofs.HandledStreams.{StreamSoFar}
use Rattle.mezdruk_files.proofs.run.DocumentTally.handle_text.Given as goal

abbrev pub invariant-values : goal.invariant-values
invariant-values g l =
    record {
      so_far : StreamSoFar (task_of g.C.ValueChange.changed l.job) l.start.name.now l.start.text.now l.offset l.number l.fn.self l.self (g.K.Sink.state l.fn.sink) (g.K.Sink.state l.sink) (vec_sink_state l.block) (g.E.Sink.state l.fn.errs) (g.E.Sink.state l.errs);
      boundary : IsCharBoundary l.start.text.now l.offset;
      within : l.offset ≤ length l.start.text.now;
      counted : l.number ≤ l.offset;
    }

abbrev pub decreases-values : goal.decreases-values
decreases-values g l = length l.start.text.now - l.offset
