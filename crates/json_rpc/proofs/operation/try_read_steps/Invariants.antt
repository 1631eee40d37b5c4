use Rattle.json_value.specs.Edits.{path_steps}
use Rattle.json_value.specs.EditTrees.{step_in}
use Rattle.json_value.specs.Left.{elements_left}
use Rattle.json_value.specs.Seen.{elements_seen}
use Rattle.json_data.proofs.Spelling.{Taken}
use Rattle.json_rpc.proofs.operation.try_read_steps.Given as goal

abbrev pub invariant-steps : goal.invariant-steps
invariant-steps l =
    (goal.iterator-steps).can_next l.element-iterator × (goal.iterator-steps).is_finite l.element-iterator
    × Taken step_in (elements_seen l.fn.array) (elements_left l.element-iterator) (path_steps l.path)
