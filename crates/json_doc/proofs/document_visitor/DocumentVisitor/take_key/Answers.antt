use Rattle.std.proofs.Common.{◌≡◌, [], ◌∷◌, ◌++◌, length}
use Rattle.json_grammar.proofs.Texts.{chars_utf8}
use Rattle.json_doc.specs.declared.cell.Cell.TheVariants as cell
use Rattle.json_doc.proofs.Holding.{held_same, held_key}
use Rattle.json_doc.proofs.document_visitor.DocumentVisitor.take_key.Goals as goal

pub returns-clause-held : goal.returns-clause-held
returns-clause-held c t h ts held b =
    let s = c.args.self.now in
    let is = c.push_text-cell.ensures.cell t h in
    let behind = c.push_text-cell.ensures.text t h in
    let cells : c.push.new.self.cells.items ≡ s.cells.items ++ cell.Str (length s.text.items) (length t) ∷ [] = cc (is, s.text.ok.0) in
    held_same _ _ _ _ _ _ _ _ _ cells (cc behind) (cc) (cc) (held_key s.cells.items s.text.items s.parent s.count ts t (chars_utf8 _ h) held b)
