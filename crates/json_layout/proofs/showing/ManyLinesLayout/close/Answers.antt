use Rattle.std.proofs.lemmas.Result.{err_from_is_err_and}
use Rattle.json_layout.proofs.Pieces.{Adds-first, Adds-then}
use Rattle.json_layout.proofs.showing.ManyLinesLayout.close.Goals as goal

pub returns-in_err-add_break : goal.returns-in_err-add_break
returns-in_err-add_break g c =
    let p = err_from_is_err_and c.from_residual.result c.from_residual.ensures.1 in
    rw (p.1, p.2, c.if-empty.false) (Adds-first _ _ _ _ _ c.in_err-add_break.ensures)

pub returns : goal.returns
returns g c = rw c.if-empty.false (Adds-then _ _ _ _ _ _ _ c.in_ok-add_break.ensures c.add-2.ensures)
