use Rattle.std.proofs.Common.{◌≡◌, drop}
use Rattle.json_value.specs.Edits.{steps_of}
use Rattle.json_value.specs.Seen.{seen}
use Rattle.json_rpc.specs.Methods.{tree_at_path}
use Rattle.json_rpc.proofs.perform.find_at_path.Given as goal

abbrev pub invariant-steps : goal.invariant-steps
invariant-steps l = tree_at_path (steps_of l.path) (seen l.root) ≡ tree_at_path (steps_of (drop l.step-index l.path)) (seen l.here)
