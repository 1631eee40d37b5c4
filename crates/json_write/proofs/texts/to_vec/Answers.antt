use Rattle.std.proofs.lemmas.Result.{err_from_is_err_and}
use Rattle.json_write.proofs.Refused.{if_err}
use Rattle.json_write.proofs.TextsInMemory.{text_put, text_is, text_refused}
use Rattle.json_write.proofs.texts.to_vec.Goals as goal

pub returns-in_err-serialize-clause-err : goal.returns-in_err-serialize-clause-err
returns-in_err-serialize-clause-err g c =
    if_err _ _ _ (err_from_is_err_and c.from_residual.result c.from_residual.ensures.1) (text_refused (g.T.Serialize.datum c.args.value.now) c.new-out.ensures.fresh c.in_err-serialize.ensures)

pub returns-clause-ok : goal.returns-clause-ok
returns-clause-ok g c = rw c.into_vec.ensures (text_is _ _ (text_put (g.T.Serialize.datum c.args.value.now) c.new-out.ensures.starts c.in_ok-serialize.ensures))

pub returns-clause-utf8 : goal.returns-clause-utf8
returns-clause-utf8 g c = rw c.into_vec.ensures (text_put (g.T.Serialize.datum c.args.value.now) c.new-out.ensures.starts c.in_ok-serialize.ensures).utf8
