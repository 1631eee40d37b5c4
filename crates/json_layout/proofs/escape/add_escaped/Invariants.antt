use Rattle.std.proofs.Common.{length, ◌-◌, ◌≤◌, take, Ok}
use Rattle.json_model.specs.Print.{shown_bytes}
use Rattle.json_layout.specs.Adding.{Adds}
use Rattle.json_layout.proofs.escape.add_escaped.Given as goal

abbrev pub invariant-runs : goal.invariant-runs
invariant-runs g l = (l.at ≤ length l.value) × Adds (g.W.Sink.state l.fn.writer) (g.W.Sink.state l.writer) (shown_bytes (take l.at l.value)) (Ok tt)

abbrev pub decreases-runs : goal.decreases-runs
decreases-runs g l = length l.value - l.at
