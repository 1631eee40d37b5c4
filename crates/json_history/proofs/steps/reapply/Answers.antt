use Rattle.std.proofs.Common.{refl}
use Rattle.json_value.proofs.AppliedTrees.{anyway}
use Rattle.json_history.proofs.RestoredValues.{edit_same}
use Rattle.json_history.proofs.steps.reapply.Goals as goal

pub returns-in_err-reserve-clause-kept_along : goal.returns-in_err-reserve-clause-kept_along
returns-in_err-reserve-clause-kept_along c = anyway _ (edit_same c.args.edit.now c.args.value.now c.args.value.now refl)
