use Rattle.std.proofs.lemmas.Result.{err_from_is_err_and}
use Rattle.json_print.proofs.Stopping.{key_begun, key_called, key_ended}
use Rattle.json_print.proofs.serializer.Serializer.write_key.Goals as goal

pub returns-in_err-begin_key_straight : goal.returns-in_err-begin_key_straight
returns-in_err-begin_key_straight g c = rw (← c.first_key-first.ensures) (key_begun g.F.Formatter.form _ _ c.first_key-first.result c.args.key.now _ _ _ (err_from_is_err_and c.from_residual.result c.from_residual.ensures.1) c.in_err-begin_key_straight.ensures.steps.stops)

pub returns-in_err-text_straight : goal.returns-in_err-text_straight
returns-in_err-text_straight g c = rw (← c.first_key-first.ensures) (key_called g.F.Formatter.form _ _ _ c.first_key-first.result c.args.key.now _ _ _ (err_from_is_err_and c.from_residual-in_err-text_straight.result c.from_residual-in_err-text_straight.ensures.1) c.in_ok-begin_key_straight.ensures.steps.ok c.in_err-text_straight.ensures.steps)

pub returns : goal.returns
returns g c = rw (← c.first_key-first.ensures) (key_ended g.F.Formatter.form _ _ _ _ c.first_key-first.result c.args.key.now _ _ c.in_ok-begin_key_straight.ensures.steps.ok c.in_ok-text_straight.ensures.steps.ok c.end_key_straight.ensures.steps)
