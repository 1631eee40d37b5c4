use Rattle.std.proofs.Common.{◌-◌, ◌≤◌, length, option_map}
use Rattle.json_layout.specs.IndentBytes.{indent_bytes}
use Rattle.json_layout.proofs.Elements.{HasAddedElements}
use Rattle.json_layout.proofs.layout.add_byte_elements.Given as goal

abbrev pub invariant-each : goal.invariant-each
invariant-each g l = (l.at ≤ length l.bytes) × HasAddedElements (g.W.Sink.state l.fn.writer) (g.W.Sink.state l.writer) (option_map indent_bytes l.indent) l.level l.at l.bytes

abbrev pub decreases-each : goal.decreases-each
decreases-each g l = length l.bytes - l.at
