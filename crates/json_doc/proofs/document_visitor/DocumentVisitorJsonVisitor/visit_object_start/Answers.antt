use Rattle.std.proofs.Common.{◌≡◌, length, ap, ◌∙◌, arith, vec_len}
use Rattle.json_doc.proofs.Holding.{held_same, held_object}
use Rattle.json_doc.proofs.document_visitor.DocumentVisitorJsonVisitor.visit_object_start.Goals as goal

pub returns-clause-held : goal.returns-clause-held
returns-clause-held c ts h b =
    let s = c.args.self.now in
    let place : c.open.new.self.parent ≡ length s.cells.items = c.open.ensures.parent ∙ ap vec_len c.if-not-admit.ensures.cells ∙ omega (arith, s.cells.ok.0) in
    held_same _ _ _ _ _ _ _ _ _ (cc) (cc) place (cc) (held_object s.cells.items s.text.items s.parent s.count ts h b)
