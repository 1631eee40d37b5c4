use Rattle.std.proofs.Common.{sym, ◌∙◌}
use Rattle.json_doc.proofs.Shown.{text_of_at}
use Rattle.json_doc.proofs.view.key_text.Goals as goal

pub returns : goal.returns
returns c = c.text_range.ensures ∙ sym (text_of_at c.args.doc.now c.args.at c.cell_at.result c.requires.within c.cell_at.ensures c.in-Str.start c.in-Str.len c.in-Str.is)
