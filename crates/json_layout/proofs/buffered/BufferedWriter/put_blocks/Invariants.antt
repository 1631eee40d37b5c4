use Rattle.std.proofs.Common.{length, ◌-◌, ◌≤◌, take, drop, Ok}
use Rattle.json_model.specs.Print.{shown_bytes}
use Rattle.json_layout.specs.Adding.{Adds}
use Rattle.json_layout.specs.Buffered.{held_after}
use Rattle.json_layout.proofs.buffered.BufferedWriter.put_blocks.Given as goal

abbrev pub invariant-fill : goal.invariant-fill
invariant-fill g l = record {
  within : l.at ≤ length l.text;
  put : Adds (held_after (g.W.Sink.state l.fn.self.inner) (drop l.fn.self.sent (take l.fn.self.end l.fn.self.buffer.items)))
      (held_after (g.W.Sink.state l.self.inner) (drop l.self.sent (take l.self.end l.self.buffer.items)))
      (shown_bytes (take l.at l.text)) (Ok tt);
}

abbrev pub decreases-fill : goal.decreases-fill
decreases-fill g l = length l.text - l.at
