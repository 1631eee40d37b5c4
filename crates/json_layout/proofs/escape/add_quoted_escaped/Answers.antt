use Rattle.std.proofs.Common.{[], ◌∷◌}
use Rattle.std.proofs.lemmas.Result.{err_from_is_err_and}
use Rattle.json_layout.proofs.Pieces.{Adds-first, Adds-then}
use Rattle.json_layout.proofs.escape.add_quoted_escaped.Goals as goal

pub returns-in_err-add : goal.returns-in_err-add
returns-in_err-add g c =
    let p = err_from_is_err_and c.from_residual.result c.from_residual.ensures.1 in rw (p.1, p.2) (Adds-first _ _ (34 ∷ []) _ _ c.in_err-add.ensures)

pub returns-in_err-add_escaped : goal.returns-in_err-add_escaped
returns-in_err-add_escaped g c =
    let p = err_from_is_err_and c.from_residual-in_err-add_escaped.result c.from_residual-in_err-add_escaped.ensures.1 in
    rw (p.1, p.2) (Adds-then _ _ _ (34 ∷ []) _ _ _ c.in_ok-add.ensures (Adds-first _ _ _ _ _ c.in_err-add_escaped.ensures))

pub returns : goal.returns
returns g c = Adds-then _ _ _ (34 ∷ []) _ _ _ c.in_ok-add.ensures (Adds-then _ _ _ _ _ _ _ c.in_ok-add_escaped.ensures c.add-2.ensures)
