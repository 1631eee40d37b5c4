use Rattle.std.proofs.lemmas.Result.{err_from_is_err_and}
use Rattle.json_layout.proofs.Elements.{element_failed, element_put}
use Rattle.json_layout.proofs.layout.add_byte_element.Goals as goal

pub returns-in_err-add_start : goal.returns-in_err-add_start
returns-in_err-add_start g c =
    let p = err_from_is_err_and c.from_residual.result c.from_residual.ensures.1 in rw (p.1, p.2) (element_failed _ _ _ _ _ c.args.byte _ c.in_err-add_start.ensures)

pub returns : goal.returns
returns g c = element_put _ _ _ _ _ _ c.args.byte _ c.in_ok-add_start.ensures c.add_number.ensures
