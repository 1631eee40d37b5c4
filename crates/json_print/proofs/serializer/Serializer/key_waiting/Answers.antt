use Rattle.std.proofs.lemmas.Result.{err_from_is_err_and}
use Rattle.json_print.proofs.Stopping.{key_begun, key_called, key_ended}
use Rattle.json_print.proofs.serializer.Serializer.key_waiting.Goals as goal

pub returns-in_err-call_waiting : goal.returns-in_err-call_waiting
returns-in_err-call_waiting g c = rw (← c.first_key-first.ensures) (key_begun g.F.Formatter.form _ _ c.first_key-first.result c.args.key.now _ _ _ (err_from_is_err_and c.from_residual.result c.from_residual.ensures.1) c.in_err-call_waiting.ensures.stops)

pub returns-in_err-call_waiting-2 : goal.returns-in_err-call_waiting-2
returns-in_err-call_waiting-2 g c = rw (← c.first_key-first.ensures) (key_called g.F.Formatter.form _ _ _ c.first_key-first.result c.args.key.now _ _ _ (err_from_is_err_and c.from_residual-in_err-call_waiting-2.result c.from_residual-in_err-call_waiting-2.ensures.1) c.in_ok-call_waiting.ensures.ok c.in_err-call_waiting-2.ensures)

pub returns : goal.returns
returns g c = rw (← c.first_key-first.ensures) (key_ended g.F.Formatter.form _ _ _ _ c.first_key-first.result c.args.key.now _ _ c.in_ok-call_waiting.ensures.ok c.in_ok-call_waiting-2.ensures.ok c.call_waiting-3.ensures)
