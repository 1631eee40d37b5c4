use Rattle.std.proofs.Common.{to_z-of_z}
use Rattle.json_doc.proofs.Holding.{held_same, held_negative}
use Rattle.json_doc.proofs.document_visitor.DocumentVisitorJsonVisitor.visit_i64.Goals as goal

pub returns-clause-held : goal.returns-clause-held
returns-clause-held c ts h b =
    let s = c.args.self.now in
    held_same _ _ _ _ _ _ _ _ _ (cc (to_z-of_z c.ranges.n)) (cc) (cc) (cc) (held_negative s.cells.items s.text.items s.parent s.count ts c.args.n c.requires.negative c.ranges.n h b)
