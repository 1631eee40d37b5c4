use Rattle.std.proofs.Common.{◌-◌, ◌≤◌, Ok}
use Rattle.json_model.specs.Print.{indents}
use Rattle.json_layout.specs.Adding.{Adds}
use Rattle.json_layout.proofs.indent.add_indents.Given as goal

abbrev pub invariant-fill : goal.invariant-fill
invariant-fill g l = (l.left ≤ l.level) × Adds (g.W.Sink.state l.fn.writer) (g.W.Sink.state l.writer) (indents (l.level - l.left) l.indent.bytes.now) (Ok tt)

abbrev pub decreases-fill : goal.decreases-fill
decreases-fill g l = l.left
