use Rattle.std.proofs.Common.{◌+◌, ◌-◌, length, drop, take}
use Rattle.json_layout.specs.Buffered.{held_after}
use Rattle.json_lines.specs.Reading.{held_bytes}
use Rattle.json_rpc.specs.Denoted.{serving_state}
use Rattle.json_rpc.proofs.ServedLines.{ServedLines}
use Rattle.json_rpc.proofs.lines.serve_lines.Given as goal

abbrev pub invariant-line : goal.invariant-line
invariant-line g l =
    ServedLines (serving_state l.fn.reader (g.S.Source.state l.fn.source) (held_after (g.W.Sink.state l.fn.out.inner) (drop l.fn.out.sent (take l.fn.out.end l.fn.out.buffer.items))) l.fn.service)
    (serving_state l.reader (g.S.Source.state l.source) (held_after (g.W.Sink.state l.out.inner) (drop l.out.sent (take l.out.end l.out.buffer.items))) l.service)

abbrev pub decreases-line : goal.decreases-line
decreases-line g l = 4294967295 - l.reader.received + length (held_bytes l.reader)
