use Rattle.std.proofs.Common.{sym, ◌∙◌}
use Rattle.json_doc.proofs.Shown.{bool_at}
use Rattle.json_doc.proofs.view.DocView.as_bool.Goals as goal

pub returns : goal.returns
returns c = let s = c.args.self in c.as_bool.ensures ∙ sym (bool_at s.doc.now s.at c.cell.result s.inside c.cell.ensures)
