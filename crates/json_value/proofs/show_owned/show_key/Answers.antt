use Rattle.std.proofs.Common.{ap}
use Rattle.std.proofs.lemmas.Result.{err_from_is_err_and}
use Rattle.json_model.specs.Print.{quoted, colon_bytes}
use Rattle.json_layout.proofs.Pieces.{Adds-first, Adds-then}
use Rattle.json_layout.proofs.ShownParts.{Adds-same}
use Rattle.json_value.specs.Denotes.{text_bytes}
use Rattle.json_value.proofs.show_owned.show_key.Goals as goal

pub returns-in_err-lead : goal.returns-in_err-lead
returns-in_err-lead g c =
    let p = err_from_is_err_and c.from_residual.result c.from_residual.ensures.1 in rw (p.1, p.2) (Adds-first _ _ _ _ _ c.in_err-lead.ensures)

pub returns-in_err-show_text : goal.returns-in_err-show_text
returns-in_err-show_text g c =
    let p = err_from_is_err_and c.from_residual-in_err-show_text.result c.from_residual-in_err-show_text.ensures.1 in
    rw (p.1, p.2) (Adds-then _ _ _ _ _ _ _ c.in_ok-lead.ensures
    (Adds-first _ _ (quoted (text_bytes c.args.key.now)) (colon_bytes (g.L.Layout.indent c.args.layout)) _ (Adds-same _ _ (quoted c.as_str.result.now) _ _ (ap quoted c.as_str.ensures) c.in_err-show_text.ensures)))

pub returns : goal.returns
returns g c =
    Adds-then _ _ _ _ _ _ _ c.in_ok-lead.ensures
    (Adds-then _ _ _ (quoted (text_bytes c.args.key.now)) (colon_bytes (g.L.Layout.indent c.args.layout)) _ _ (Adds-same _ _ (quoted c.as_str.result.now) _ _ (ap quoted c.as_str.ensures) c.in_ok-show_text.ensures) c.colon.ensures)
