use Rattle.json_doc.proofs.Holding.{held_same, held_null}
use Rattle.json_doc.proofs.document_visitor.DocumentVisitorJsonVisitor.visit_null.Goals as goal

pub returns-clause-held : goal.returns-clause-held
returns-clause-held c ts h b =
    let s = c.args.self.now in
    held_same _ _ _ _ _ _ _ _ _ (cc) (cc) (cc) (cc) (held_null s.cells.items s.text.items s.parent s.count ts h b)
