use Rattle.std.proofs.Common.{◌≡◌, ◌-◌}
use Rattle.json_lines.specs.Reading.{line_reader_state}
use Rattle.json_lines.specs.LineRanges.{SkipsLine}
use Rattle.json_lines.proofs.line_reader.LineReader.skip_line.Given as goal

abbrev pub invariant-pass : goal.invariant-pass
invariant-pass g l =
    SkipsLine (line_reader_state l.fn.self) (line_reader_state l.self) (g.S.Source.state l.fn.source) (g.S.Source.state l.source)
    × (l.self.start ≡ 0)
    × (l.self.end ≡ 0)

abbrev pub decreases-pass : goal.decreases-pass
decreases-pass g l = 4294967295 - l.self.received
