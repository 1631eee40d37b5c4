use Rattle.std.proofs.Common.{Some, sym, ap, ◌∙◌}
use Rattle.json_doc.proofs.Shown.{string_at, no_string_at}
use Rattle.json_doc.proofs.view.text_at.Goals as goal

pub returns-in-Str : goal.returns-in-Str
returns-in-Str c = ap Some c.text_range.ensures ∙ sym (string_at c.args.doc.now c.args.at c.cell_at.result c.requires c.cell_at.ensures c.in-Str.start c.in-Str.len c.in-Str.is)

pub returns-in_default : goal.returns-in_default
returns-in_default c = sym (no_string_at c.args.doc.now c.args.at c.cell_at.result c.requires c.cell_at.ensures c.in_default.not-Str)
