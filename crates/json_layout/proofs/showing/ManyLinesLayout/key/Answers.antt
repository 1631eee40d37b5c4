use Rattle.std.proofs.Common.{[], ◌∷◌}
use Rattle.std.proofs.lemmas.Result.{err_from_is_err_and}
use Rattle.json_model.specs.Print.{quoted}
use Rattle.json_layout.proofs.Pieces.{Adds-first, Adds-then}
use Rattle.json_layout.proofs.showing.ManyLinesLayout.key.Goals as goal

pub returns-in_err-add_break : goal.returns-in_err-add_break
returns-in_err-add_break g c =
    let p = err_from_is_err_and c.from_residual.result c.from_residual.ensures.1 in rw (p.1, p.2) (Adds-first _ _ _ _ _ c.in_err-add_break.ensures)

pub returns-in_err-add_item : goal.returns-in_err-add_item
returns-in_err-add_item g c =
    let p = err_from_is_err_and c.from_residual-in_err-add_item.result c.from_residual-in_err-add_item.ensures.1 in
    rw (p.1, p.2, ← c.as_bytes.ensures.value) (Adds-then _ _ _ _ _ _ _ c.in_ok-add_break.ensures (Adds-first _ _ (quoted c.as_bytes.result.now) (58 ∷ 32 ∷ []) _ c.in_err-add_item.ensures))

pub returns : goal.returns
returns g c =
    rw (← c.as_bytes.ensures.value) (Adds-then _ _ _ _ _ _ _ c.in_ok-add_break.ensures (Adds-then _ _ _ (quoted c.as_bytes.result.now) (58 ∷ 32 ∷ []) _ _ c.in_ok-add_item.ensures c.add.ensures))
