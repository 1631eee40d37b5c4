use Rattle.std.proofs.Common.{take, drop, length}
use Rattle.json_layout.specs.Buffered.{held_after}
use Rattle.json_lines.proofs.CsvFields.{WritesDoubled}
use Rattle.json_lines.proofs.csv.write_doubled.Given as goal

abbrev pub invariant-quote : goal.invariant-quote
invariant-quote g l =
    WritesDoubled l.text l.rest (held_after (g.W.Sink.state l.fn.out.inner) (drop l.fn.out.sent (take l.fn.out.end l.fn.out.buffer.items)))
    (held_after (g.W.Sink.state l.out.inner) (drop l.out.sent (take l.out.end l.out.buffer.items)))

abbrev pub decreases-quote : goal.decreases-quote
decreases-quote g l = length l.rest
