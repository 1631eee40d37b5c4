use Rattle.std.proofs.Common.{map, drop, ◌+◌, ap, ◌∙◌}
use Rattle.json_patch.specs.Patch.{applied, applied_from}
use Rattle.json_value.specs.Denotes.{tree_of}
use Rattle.json_patch.specs.Errors.{with_number}
use Rattle.json_patch.specs.Operations.{model_operation}
use Rattle.json_patch.proofs.Lookups.{drop_item}
use Rattle.json_patch.proofs.OperationLists.{stopped}
use Rattle.json_patch.proofs.Errors.{patch_fails_as}
use Rattle.json_patch.proofs.patch.apply_operations.Goals as goal

pub returns-in-Err-clause-refused : goal.returns-in-Err-clause-refused
returns-in-Err-clause-refused c =
    let os = c.args.operations.now in
    let i = c.loop-i.i in
    let o = model_operation c.index-operations-i.result in
    let t = tree_of c.loop-i.root in
    let all = applied_from 0 (map model_operation os) (tree_of c.args.root.now) in
    let here = c.loop-i.invariant.0 ∙ ap (λ ps. applied_from i (map model_operation ps) t) (drop_item os i c.index-operations-i.result c.loop-i-test.true c.index-operations-i.is) in
    patch_fails_as (with_number (applied o t) i) all (λ e h. here ∙ stopped i o (map model_operation (drop (i + 1) os)) t e h) c.error_at_operation.result.code c.error_at_operation.result.op (c.error_at_operation.ensures (applied o t) c.in-Err.ensures.refused)
