use Rattle.std.proofs.Common.{◌≡◌, map, drop}
use Rattle.json_patch.specs.Patch.{operations_from}
use Rattle.json_value.specs.Seen.{elements_seen}
use Rattle.json_patch.specs.Operations.{model_operation}
use Rattle.json_patch.proofs.OperationLists.{ahead}
use Rattle.json_patch.proofs.patch.read_operations.Given as goal

-- the operations so far precede those of the trees left
abbrev pub invariant-loop-i : goal.invariant-loop-i
invariant-loop-i l = operations_from 0 (elements_seen l.fn.list) ≡ ahead (map model_operation l.operations.items) (operations_from l.i (drop l.i (elements_seen l.fn.list)))
