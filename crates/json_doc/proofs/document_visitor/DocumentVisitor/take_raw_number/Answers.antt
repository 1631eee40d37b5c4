use Rattle.json_doc.proofs.Holding.{held_same, held_raw}
use Rattle.json_doc.proofs.document_visitor.DocumentVisitor.take_raw_number.Goals as goal

pub returns-clause-held : goal.returns-clause-held
returns-clause-held c ts h b =
    let s = c.args.self.now in
    held_same _ _ _ _ _ _ _ _ _ (cc) (cc) (cc) (cc) (held_raw s.cells.items s.text.items s.parent s.count ts c.args.literal.now c.utf8.literal c.requires.number c.requires.raw h b)
