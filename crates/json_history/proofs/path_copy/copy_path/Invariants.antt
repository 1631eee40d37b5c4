use Rattle.std.proofs.Common.{◌≡◌, take}
use Rattle.json_value.specs.Edits.{path_steps, steps_of}
use Rattle.json_history.proofs.path_copy.copy_path.Given as goal

abbrev pub invariant-loop-step : goal.invariant-loop-step
invariant-loop-step l = path_steps l.copy ≡ steps_of (take l.step-index l.step-items)
