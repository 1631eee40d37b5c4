use Rattle.std.proofs.lemmas.Result.{err_from_is_err_and}
use Rattle.json_print.specs.Calls.{null_call}
use Rattle.json_print.proofs.Stopping.{scalar_begun, scalar_called, scalar_ended}
use Rattle.json_print.proofs.serializer.Serializer.null_value.Goals as goal

pub returns-in_err-value_begin_straight : goal.returns-in_err-value_begin_straight
returns-in_err-value_begin_straight g c = scalar_begun g.F.Formatter.form _ _ null_call _ _ _ (err_from_is_err_and c.from_residual.result c.from_residual.ensures.1) c.in_err-value_begin_straight.ensures.steps.stops

pub returns-in_err-null_straight : goal.returns-in_err-null_straight
returns-in_err-null_straight g c =
    scalar_called g.F.Formatter.form _ _ _ null_call _ _ _ (err_from_is_err_and c.from_residual-in_err-null_straight.result c.from_residual-in_err-null_straight.ensures.1) c.in_ok-value_begin_straight.ensures.steps.ok c.in_err-null_straight.ensures.steps

pub returns : goal.returns
returns g c = scalar_ended g.F.Formatter.form _ _ _ _ null_call _ _ c.in_ok-value_begin_straight.ensures.steps.ok c.in_ok-null_straight.ensures.steps.ok c.value_end_straight.ensures
