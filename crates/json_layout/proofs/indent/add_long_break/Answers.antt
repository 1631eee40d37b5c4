use Rattle.std.proofs.lemmas.Result.{err_from_is_err_and}
use Rattle.json_layout.proofs.Breaks.{opening_failed, opening_put, opening_then}
use Rattle.json_layout.proofs.indent.add_long_break.Goals as goal

pub returns-in_err-add : goal.returns-in_err-add
returns-in_err-add g c =
    let p = err_from_is_err_and c.from_residual.result c.from_residual.ensures.1 in
    rw (p.1, p.2) (opening_failed _ _ c.args.first _ _ (opening_put _ _ c.args.first c.from.result 64 _ c.from.ensures c.in_err-add.ensures))

pub returns : goal.returns
returns g c = opening_then _ _ _ c.args.first _ _ _ (opening_put _ _ c.args.first c.from.result 64 _ c.from.ensures c.in_ok-add.ensures) c.add_indents.ensures
