use Rattle.std.proofs.Common.{sym, ◌∙◌}
use Rattle.std.proofs.lemmas.Result.{on_ok_weaker, on_err_weaker}
use Rattle.json_history.proofs.Restoring.{array_shortened, object_shortened, object_kept}
use Rattle.std.proofs.Common.{inl, inr}
use Rattle.json_history.proofs.RestoredValues.{array_touched, array_untouched, object_touched, object_untouched}
use Rattle.json_history.proofs.restore.remove_last.Goals as goal

pub returns-in-Array-clause-ok : goal.returns-in-Array-clause-ok
returns-in-Array-clause-ok c =
    let call = c.remove_last_element-outcome in
    on_ok_weaker call.result (array_shortened c.args.value.now c.in-Array.array call.new.array (sym c.take.ensures.value ∙ c.in-Array.is) c.requires) call.ensures.ok

pub returns-in-Object-clause-ok : goal.returns-in-Object-clause-ok
returns-in-Object-clause-ok c =
    let call = c.remove_last_member-outcome in
    on_ok_weaker call.result (object_shortened c.args.value.now c.in-Object.object call.new.object (sym c.take.ensures.value ∙ c.in-Object.is) c.requires) call.ensures.ok

pub returns-in-Object-clause-kept : goal.returns-in-Object-clause-kept
returns-in-Object-clause-kept c =
    let call = c.remove_last_member-outcome in
    on_err_weaker call.result (object_kept c.args.value.now c.in-Object.object call.new.object (sym c.take.ensures.value ∙ c.in-Object.is)) call.ensures.kept

pub returns-in-Array-clause-touched : goal.returns-in-Array-clause-touched
returns-in-Array-clause-touched c =
    let call = c.remove_last_element-outcome in
    on_ok_weaker call.result (λ t. inl (array_touched c.args.value.now c.in-Array.array call.new.array (sym c.take.ensures.value ∙ c.in-Array.is) t)) call.ensures.touched

pub returns-in-Array-clause-untouched : goal.returns-in-Array-clause-untouched
returns-in-Array-clause-untouched c =
    let call = c.remove_last_element-outcome in
    on_err_weaker call.result (array_untouched c.args.value.now c.in-Array.array call.new.array (sym c.take.ensures.value ∙ c.in-Array.is)) call.ensures.untouched

pub returns-in-Object-clause-touched : goal.returns-in-Object-clause-touched
returns-in-Object-clause-touched c =
    let call = c.remove_last_member-outcome in
    on_ok_weaker call.result (λ t. inr (object_touched c.args.value.now c.in-Object.object call.new.object (sym c.take.ensures.value ∙ c.in-Object.is) t)) call.ensures.touched

pub returns-in-Object-clause-untouched : goal.returns-in-Object-clause-untouched
returns-in-Object-clause-untouched c =
    let call = c.remove_last_member-outcome in
    on_err_weaker call.result (object_untouched c.args.value.now c.in-Object.object call.new.object (sym c.take.ensures.value ∙ c.in-Object.is)) call.ensures.untouched
