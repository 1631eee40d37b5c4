use Rattle.std.proofs.Common.{refl}
use Rattle.json_value.proofs.AppliedTrees.{anyway}
use Rattle.json_history.specs.ChangeTrees.{change_path}
use Rattle.json_history.proofs.RestoredValues.{undo_same}
use Rattle.json_history.proofs.steps.undo_change.Goals as goal

pub returns-in_err-reserve-clause-kept_along : goal.returns-in_err-reserve-clause-kept_along
returns-in_err-reserve-clause-kept_along c = anyway _ (undo_same (change_path c.args.change.now) c.args.value.now c.args.value.now refl)

pub returns-in_err-edit-clause-kept_along : goal.returns-in_err-edit-clause-kept_along
returns-in_err-edit-clause-kept_along c = anyway _ (undo_same (change_path c.args.change.now) c.args.value.now c.args.value.now refl)
