use Rattle.std.proofs.Common.{[], ◌∷◌}
use Rattle.std.proofs.lemmas.Result.{err_from_is_err_and}
use Rattle.json_layout.proofs.Escapes.{plain_all}
use Rattle.json_layout.proofs.Pieces.{Adds-first, Adds-then}
use Rattle.json_layout.proofs.escape.add_quoted_plain.Goals as goal

pub returns-in_err-add : goal.returns-in_err-add
returns-in_err-add g c =
    let p = err_from_is_err_and c.from_residual.result c.from_residual.ensures.1 in rw (p.1, p.2) (Adds-first _ _ (34 ∷ []) _ _ c.in_err-add.ensures)

pub returns-in_err-add-2 : goal.returns-in_err-add-2
returns-in_err-add-2 g c =
    let p = err_from_is_err_and c.from_residual-in_err-add-2.result c.from_residual-in_err-add-2.ensures.1 in
    rw (p.1, p.2, plain_all _ c.requires) (Adds-then _ _ _ (34 ∷ []) _ _ _ c.in_ok-add.ensures (Adds-first _ _ _ _ _ c.in_err-add-2.ensures))

pub returns : goal.returns
returns g c = rw (plain_all _ c.requires) (Adds-then _ _ _ (34 ∷ []) _ _ _ c.in_ok-add.ensures (Adds-then _ _ _ _ _ _ _ c.in_ok-add-2.ensures c.add-3.ensures))
