use Rattle.std.proofs.Common.{refl}
use Rattle.std.proofs.lemmas.Result.{err_from_is_err_and}
use Rattle.json_write.proofs.Building.{value_built, value_fits, value_refused}
use Rattle.json_write.proofs.Refused.{if_err}
use Rattle.json_write.proofs.builder.to_value.Goals as goal

pub returns-in_err-serialize-clause-err : goal.returns-in_err-serialize-clause-err
returns-in_err-serialize-clause-err g c =
    if_err _ _ _ (err_from_is_err_and c.from_residual.result c.from_residual.ensures.1) (value_refused (g.T.Serialize.datum c.args.value.now) _ _ _ _ _ c.new-builder.ensures.fresh c.new-builder.ensures.start refl c.in_err-serialize.ensures)

pub returns-clause-ok : goal.returns-clause-ok
returns-clause-ok g c = value_built (g.T.Serialize.datum c.args.value.now) _ _ _ _ _ _ c.new-builder.ensures.start c.in_ok-serialize.ensures c.into_value.ensures

pub returns-clause-fits : goal.returns-clause-fits
returns-clause-fits g c = value_fits (g.T.Serialize.datum c.args.value.now) _ _ _ _ _ c.new-builder.ensures.start refl c.in_ok-serialize.ensures
