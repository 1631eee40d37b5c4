use Rattle.std.proofs.Common.{sym, ◌∙◌}
use Rattle.std.proofs.lemmas.Result.{on_ok_weaker}
use Rattle.json_value.specs.Denotes.{tree_of}
use Rattle.json_history.proofs.Restoring.{element_in_range, element_inserted}
use Rattle.std.proofs.lemmas.Result.{on_err_weaker}
use Rattle.json_history.proofs.RestoredValues.{array_touched, array_kept_same}
use Rattle.json_history.proofs.restore.restore_element.Goals as goal

pub insert_into_array-outcome-requires : goal.insert_into_array-outcome-requires
insert_into_array-outcome-requires c =
    element_in_range c.args.value.now c.in-Array.array c.in-Array.array (sym c.take.ensures.value ∙ c.in-Array.is) c.args.index (tree_of c.args.old.now) c.requires

pub returns-clause-ok : goal.returns-clause-ok
returns-clause-ok c =
    let call = c.insert_into_array-outcome in
    on_ok_weaker call.result
    (element_inserted c.args.value.now c.in-Array.array call.new.array (sym c.take.ensures.value ∙ c.in-Array.is) c.args.index (tree_of c.args.old.now) c.requires) call.ensures.ok

pub returns-clause-touched : goal.returns-clause-touched
returns-clause-touched c =
    let call = c.insert_into_array-outcome in
    on_ok_weaker call.result (array_touched c.args.value.now c.in-Array.array call.new.array (sym c.take.ensures.value ∙ c.in-Array.is)) call.ensures.touched

pub returns-clause-untouched : goal.returns-clause-untouched
returns-clause-untouched c =
    let call = c.insert_into_array-outcome in
    on_err_weaker call.result (array_kept_same c.args.value.now c.in-Array.array call.new.array (sym c.take.ensures.value ∙ c.in-Array.is)) call.ensures.untouched
