use Rattle.std.proofs.Common.{[], ◌∷◌}
use Rattle.std.proofs.lemmas.Result.{err_from_is_err_and}
use Rattle.json_layout.proofs.Pieces.{Adds-first, Adds-then}
use Rattle.json_layout.proofs.Elements.{holds_some}
use Rattle.json_layout.proofs.layout.add_byte_array.Goals as goal

pub returns-in_err-add : goal.returns-in_err-add
returns-in_err-add g c =
    let p = err_from_is_err_and c.from_residual.result c.from_residual.ensures.1 in rw (p.1, p.2) (Adds-first _ _ (91 ∷ []) _ _ c.in_err-add.ensures)

pub returns-in_err-add_byte_elements : goal.returns-in_err-add_byte_elements
returns-in_err-add_byte_elements g c =
    let p = err_from_is_err_and c.from_residual-in_err-add_byte_elements.result c.from_residual-in_err-add_byte_elements.ensures.1 in
    rw (p.1, p.2) (Adds-then _ _ _ (91 ∷ []) _ _ _ c.in_ok-add.ensures (Adds-first _ _ _ _ _ c.in_err-add_byte_elements.ensures))

pub returns : goal.returns
returns g c =
    rw (← holds_some c.args.bytes.now c.is_empty.result c.is_empty.ensures)
    (Adds-then _ _ _ (91 ∷ []) _ _ _ c.in_ok-add.ensures (Adds-then _ _ _ _ _ _ _ c.in_ok-add_byte_elements.ensures c.add_end.ensures))
