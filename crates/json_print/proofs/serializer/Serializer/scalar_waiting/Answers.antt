use Rattle.std.proofs.lemmas.Result.{err_from_is_err_and}
use Rattle.json_print.specs.Parts.{meaning}
use Rattle.json_print.proofs.Stopping.{scalar_begun, scalar_called, scalar_ended}
use Rattle.json_print.proofs.serializer.Serializer.scalar_waiting.Goals as goal

pub returns-in_err-value_begin : goal.returns-in_err-value_begin
returns-in_err-value_begin g c = scalar_begun g.F.Formatter.form _ _ (meaning c.args.part) _ _ _ (err_from_is_err_and c.from_residual.result c.from_residual.ensures.1) c.in_err-value_begin.ensures.stops

pub returns-in_err-call_waiting : goal.returns-in_err-call_waiting
returns-in_err-call_waiting g c =
    scalar_called g.F.Formatter.form _ _ _ (meaning c.args.part) _ _ _ (err_from_is_err_and c.from_residual-in_err-call_waiting.result c.from_residual-in_err-call_waiting.ensures.1) c.in_ok-value_begin.ensures.ok c.in_err-call_waiting.ensures

pub returns : goal.returns
returns g c = scalar_ended g.F.Formatter.form _ _ _ _ (meaning c.args.part) _ _ c.in_ok-value_begin.ensures.ok c.in_ok-call_waiting.ensures.ok c.value_end.ensures
