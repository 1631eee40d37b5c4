use Rattle.std.proofs.Common.{◌≡◌, drop}
use Rattle.json_value.specs.Edits.{steps_of}
use Rattle.json_value.specs.Seen.{seen}
use Rattle.json_value.specs.TargetParts.{target_along}
use Rattle.json_value.specs.ViewTargets.{view_target}
use Rattle.json_value.specs.Steps.{tree_at}
use Rattle.json_value.proofs.view.View.pointer.Given as goal

abbrev pub invariant-loop-node : goal.invariant-loop-node
invariant-loop-node l =
    (tree_at (steps_of l.path) (seen l.self) ≡ tree_at (steps_of (drop l.node-index l.path)) (seen l.here))
    × (target_along (steps_of l.path) (view_target l.self) ≡ target_along (steps_of (drop l.node-index l.path)) (view_target l.here))
