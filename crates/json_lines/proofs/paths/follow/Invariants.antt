use Rattle.std.proofs.Common.{◌≡◌, drop}
use Rattle.json_doc.specs.Seen.{view_tree}
use Rattle.json_value.specs.Edits.{steps_of}
use Rattle.json_value.specs.Steps.{tree_at}
use Rattle.json_lines.proofs.paths.follow.Given as goal

abbrev pub invariant-loop-step : goal.invariant-loop-step
invariant-loop-step l = tree_at (steps_of l.path) (view_tree l.view) ≡ tree_at (steps_of (drop l.step-index l.path)) (view_tree l.here)
