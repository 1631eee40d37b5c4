use Rattle.std.proofs.Common.{[], ◌∷◌, append_assoc}
use Rattle.std.proofs.lemmas.Result.{err_from_is_err_and}
use Rattle.json_model.specs.Print.{quoted}
use Rattle.json_layout.specs.Pieces.{comma}
use Rattle.json_layout.proofs.Pieces.{Adds-first, Adds-then}
use Rattle.json_layout.proofs.showing.add_key.Goals as goal

pub returns-in_err-put_quoted : goal.returns-in_err-put_quoted
returns-in_err-put_quoted g c =
    let p = err_from_is_err_and c.from_residual.result c.from_residual.ensures.1 in
    rw (p.1, p.2, ← append_assoc (comma c.args.first) (quoted c.args.key.now) (58 ∷ [])) (Adds-first _ _ _ _ _ c.in_err-put_quoted.ensures)

pub returns : goal.returns
returns g c = rw (← append_assoc (comma c.args.first) (quoted c.args.key.now) (58 ∷ [])) (Adds-then _ _ _ _ _ _ _ c.in_ok-put_quoted.ensures c.add.ensures)
