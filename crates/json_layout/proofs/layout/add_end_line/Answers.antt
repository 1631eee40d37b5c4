use Rattle.std.proofs.lemmas.Result.{err_from_is_err_and}
use Rattle.json_layout.proofs.Pieces.{Adds-first, Adds-then}
use Rattle.json_layout.proofs.layout.add_end_line.Goals as goal

pub returns-in_err-add_start : goal.returns-in_err-add_start
returns-in_err-add_start g c =
    let p = err_from_is_err_and c.from_residual.result c.from_residual.ensures.1 in rw (p.1, p.2) (Adds-first _ _ _ _ _ c.in_err-add_start.ensures)

pub returns : goal.returns
returns g c = Adds-then _ _ _ _ _ _ _ c.in_ok-add_start.ensures c.add.ensures
