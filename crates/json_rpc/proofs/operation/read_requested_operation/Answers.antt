use Rattle.std.proofs.Common.{rules}
use Rattle.json_rpc.proofs.operation.read_requested_operation.Goals as goal
use Rattle.json_rpc.proofs.operation.read_requested_operation.Goals.{in-get+in_ok-operation-in-get, in-set+in_ok-operation-in-set, in-insert+in_ok-operation-in-insert, in-push+in_ok-operation-in-push, in-remove+in_ok-operation-in-remove, in-patch+in_ok-operation-in-patch, in-merge+in_ok-operation-in-merge, in-undo, in-redo}

pub returns-clause-ok : goal.returns-clause-ok
returns-clause-ok c =
    elim c.match-request.branch [
      | in-get+in_ok-operation-in-get w ↦ search rules
      | in-set+in_ok-operation-in-set w ↦ search rules
      | in-insert+in_ok-operation-in-insert w ↦ search rules
      | in-push+in_ok-operation-in-push w ↦ search rules
      | in-remove+in_ok-operation-in-remove w ↦ search rules
      | in-patch+in_ok-operation-in-patch w ↦ search rules
      | in-merge+in_ok-operation-in-merge w ↦ search rules
      | in-undo w ↦ search rules
      | in-redo w ↦ search rules
    ]
