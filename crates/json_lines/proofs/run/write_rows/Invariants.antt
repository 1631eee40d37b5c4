use Rattle.std.proofs.Common.{◌≡◌, ◌+◌, ◌-◌, length, true, false}
use Rattle.json_lines.specs.Reading.{held_bytes}
use Rattle.json_lines.specs.Running.{run_state}
use Rattle.json_lines.proofs.HandledLines.{HandledLines}
use Rattle.json_lines.proofs.run.write_rows.Given as goal

abbrev pub invariant-line : goal.invariant-line
invariant-line g l =
    record {
      handled : HandledLines (g.R.RowWriter.has_outcome l.fn.run.room.rows.now)
          (run_state l.fn.run.reader (g.S.Source.state l.fn.source) (g.K.Sink.state l.fn.sink) (g.E.Sink.state l.fn.errs) l.fn.tally)
          (run_state l.run.reader (g.S.Source.state l.source) (g.K.Sink.state l.sink) (g.E.Sink.state l.errs) l.tally);
      same_rows : l.run.room.rows.now ≡ l.fn.run.room.rows.now;
      calm : (g.R.RowWriter.strict l.fn.run.room.rows.now ≡ true) → l.tally.bad ≡ false;
    }

abbrev pub decreases-line : goal.decreases-line
decreases-line g l = 4294967295 - l.run.reader.received + length (held_bytes l.run.reader)
