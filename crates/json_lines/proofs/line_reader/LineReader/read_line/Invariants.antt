use Rattle.std.proofs.Common.{◌+◌, ◌-◌}
use Rattle.json_lines.specs.Reading.{line_reader_state}
use Rattle.json_lines.specs.LineRanges.{ReadsUnended}
use Rattle.json_lines.proofs.line_reader.LineReader.read_line.Given as goal

abbrev pub invariant-wait : goal.invariant-wait
invariant-wait g l = ReadsUnended (line_reader_state l.fn.self) (line_reader_state l.self) (g.S.Source.state l.fn.source) (g.S.Source.state l.source)

abbrev pub decreases-wait : goal.decreases-wait
decreases-wait g l = l.self.limit + 1 - (l.self.end - l.self.start)
