use Rattle.std.proofs.Common.{sym, ◌∙◌}
use Rattle.std.proofs.lemmas.Result.{on_ok_weaker, on_err_weaker}
use Rattle.json_history.specs.ChangeTrees.{removed_members}
use Rattle.json_history.proofs.Restoring.{object_members_in_range, object_members_inserted, object_kept}
use Rattle.json_history.proofs.RestoredValues.{object_touched, object_kept_same}
use Rattle.json_history.proofs.restore.insert_members.Goals as goal

pub insert_into_object-outcome-requires : goal.insert_into_object-outcome-requires
insert_into_object-outcome-requires c =
    object_members_in_range c.args.value.now c.in-Object.object c.in-Object.object (sym c.take.ensures.value ∙ c.in-Object.is) (removed_members c.args.taken.now) c.requires

pub returns-clause-ok : goal.returns-clause-ok
returns-clause-ok c =
    let call = c.insert_into_object-outcome in
    on_ok_weaker call.result
    (object_members_inserted c.args.value.now c.in-Object.object call.new.object (sym c.take.ensures.value ∙ c.in-Object.is) (removed_members c.args.taken.now)) call.ensures.ok

pub returns-clause-kept : goal.returns-clause-kept
returns-clause-kept c =
    let call = c.insert_into_object-outcome in
    on_err_weaker call.result (object_kept c.args.value.now c.in-Object.object call.new.object (sym c.take.ensures.value ∙ c.in-Object.is)) call.ensures.kept

pub returns-clause-touched : goal.returns-clause-touched
returns-clause-touched c =
    let call = c.insert_into_object-outcome in
    on_ok_weaker call.result (object_touched c.args.value.now c.in-Object.object call.new.object (sym c.take.ensures.value ∙ c.in-Object.is)) call.ensures.touched

pub returns-clause-untouched : goal.returns-clause-untouched
returns-clause-untouched c =
    let call = c.insert_into_object-outcome in
    on_err_weaker call.result (object_kept_same c.args.value.now c.in-Object.object call.new.object (sym c.take.ensures.value ∙ c.in-Object.is)) call.ensures.untouched
