use Rattle.std.proofs.Common.{◌≡◌, map, drop}
use Rattle.json_patch.specs.Patch.{applied_from}
use Rattle.json_value.specs.Denotes.{tree_of}
use Rattle.json_patch.specs.Operations.{model_operation}
use Rattle.json_patch.proofs.Touched.{GoesOn}
use Rattle.json_patch.proofs.patch.apply_operations.Given as goal

-- the operations left go on from the value so far
abbrev pub invariant-loop-i : goal.invariant-loop-i
invariant-loop-i l =
    (applied_from 0 (map model_operation l.operations) (tree_of l.fn.root) ≡ applied_from l.i (map model_operation (drop l.i l.operations)) (tree_of l.root))
    × GoesOn (map model_operation l.operations) (map model_operation (drop l.i l.operations)) l.fn.root l.root
