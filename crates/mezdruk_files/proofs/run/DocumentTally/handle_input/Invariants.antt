use Rattle.std.proofs.Common.{◌≡◌, ◌-◌, false, vec_len}
use Rattle.mezdruk_files.specs.Inputs.{has_newline}
use Rattle.mezdruk_files.specs.Outcomes.{task_of}
use Rattle.mezdruk_files.proofs.HandledInputs.{LinesSoFar}
use Rattle.mezdruk_files.proofs.run.DocumentTally.handle_input.Given as goal

abbrev pub invariant-reads : goal.invariant-reads
invariant-reads g l =
    record {
      so_far : LinesSoFar (task_of g.C.ValueChange.changed l.job) l.fn.input.name.now (g.S.Source.state l.fn.input.source) (g.S.Source.state l.input.source) l.held.items l.number l.received l.fn.self l.self (g.K.Sink.state l.fn.sink) (g.K.Sink.state l.sink) (g.E.Sink.state l.fn.errs) (g.E.Sink.state l.errs);
      unended : has_newline l.held.items ≡ false;
      size : vec_len l.block ≡ 65536;
    }

abbrev pub decreases-reads : goal.decreases-reads
decreases-reads g l = 4294967296 - l.received
