use Rattle.std.proofs.Common.{sym, ◌∙◌}
use Rattle.json_doc.proofs.Shown.{type_at}
use Rattle.json_doc.proofs.view.DocView.get_type.Goals as goal

pub returns : goal.returns
returns c = let s = c.args.self in c.get_type.ensures ∙ sym (type_at s.doc.now s.at c.cell.result s.inside c.cell.ensures)
