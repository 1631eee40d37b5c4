use Rattle.std.proofs.Common.{map, ap, ◌∙◌, arith, Vec, Global}
use Rattle.std.proofs.lemmas.List.{map_push}
use Rattle.json_patch.specs.Patch.{operations_from}
use Rattle.json_value.specs.Seen.{seen, elements_seen}
use Rattle.json_patch.specs.Operations.{model_operation}
use Rattle.json_patch.specs.declared.operation.Operation.{Operation}
use Rattle.json_patch.proofs.OperationLists.{read_more, read_none, got_past}
use Rattle.json_patch.proofs.patch.read_operations.Goals.{in-Some+in-Ok-Some+in_ok-push-in-Ok-Some, in_default}
use Rattle.json_patch.proofs.patch.read_operations.Goals as goal

pub returns-in-Ok-None-clause-refused : goal.returns-in-Ok-None-clause-refused
returns-in-Ok-None-clause-refused c =
    let xs = elements_seen c.args.list in
    read_none (map model_operation c.loop-i.operations.items) (operations_from 0 xs) xs c.loop-i.i (seen c.in-Some.view) c.loop-i.invariant c.in-Some.ensures.tree
    (rw c.in-Ok-None.field-0-is at c.in-Ok-None.ensures.ok)

pub loop-i-preserved : goal.loop-i-preserved
loop-i-preserved c =
    let xs = elements_seen c.args.list in
    let i = c.loop-i.i in
    elim c.match-get.branch [
      | in-Some+in-Ok-Some+in_ok-push-in-Ok-Some w ↦
          read_more (map model_operation c.loop-i.operations.items) (map model_operation c.match-get.operations.items) (operations_from 0 xs) xs i (seen w.in-Some.view) (model_operation w.in-Ok-Some.operation) c.loop-i.invariant w.in-Some.ensures.tree
          (rw w.in-Ok-Some.field-0-is at w.in-Ok-Some.ensures.ok)
          (ap (λ (v : Vec Operation Global). map model_operation v.items) w.operations-is ∙ ap (map model_operation) w.in_ok-push-in-Ok-Some.ensures.items ∙ map_push model_operation c.loop-i.operations.items w.in-Ok-Some.operation)
      | in_default w ↦ let past = got_past xs i w.in_default.ensures.tree in absurd (omega (arith, past, c.loop-i-test.true, c.len-i-end.ensures))
    ]
