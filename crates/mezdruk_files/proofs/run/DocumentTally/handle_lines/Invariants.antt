use Rattle.std.proofs.Common.{◌≡◌, ◌≤◌, ◌+◌, length}
use Rattle.mezdruk_files.specs.Outcomes.{task_of}
use Rattle.mezdruk_files.specs.Parts.{lines_of}
use Rattle.mezdruk_files.specs.Running.{Handles}
use Rattle.mezdruk_files.proofs.Handled.{LinesLeft}
use Rattle.mezdruk_files.proofs.run.DocumentTally.handle_lines.Given as goal

abbrev pub invariant-lines : goal.invariant-lines
invariant-lines g l =
    record {
      handled : Handles (LinesLeft (task_of g.C.ValueChange.changed l.job) l.fn.lines.name.now l.fn.lines.before l.fn.lines.bytes.now l.number l.rest) l.fn.self l.self (g.K.Sink.state l.fn.sink) (g.K.Sink.state l.sink) (g.E.Sink.state l.fn.errs) (g.E.Sink.state l.errs);
      counted : l.number + length l.rest ≤ l.fn.lines.before + length l.fn.lines.bytes.now;
      numbered : l.number + length (lines_of l.rest) ≡ l.fn.lines.before + length (lines_of l.fn.lines.bytes.now);
    }

abbrev pub decreases-lines : goal.decreases-lines
decreases-lines g l = length l.rest
