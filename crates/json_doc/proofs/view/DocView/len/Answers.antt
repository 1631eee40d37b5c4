use Rattle.std.proofs.Common.{sym, ◌∙◌}
use Rattle.json_doc.proofs.Shown.{count_at}
use Rattle.json_doc.proofs.view.DocView.len.Goals as goal

pub returns : goal.returns
returns c = let s = c.args.self in c.len.ensures ∙ sym (count_at s.doc.now s.at c.cell.result s.inside c.cell.ensures)
