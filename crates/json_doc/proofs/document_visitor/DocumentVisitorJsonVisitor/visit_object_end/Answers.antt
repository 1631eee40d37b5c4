use Rattle.std.proofs.Common.{◌≡◌, ◌/◌, length, ◌∙◌, arith}
use Rattle.std.specs.Prelude.{slice_set}
use Rattle.json_doc.specs.declared.cell.Cell.TheVariants as cell
use Rattle.json_doc.proofs.Holding.{held_same, held_object_end}
use Rattle.json_doc.proofs.document_visitor.DocumentVisitorJsonVisitor.visit_object_end.Goals as goal

pub close-requires : goal.close-requires
close-requires c =
    let s = c.args.self.now in
    let q = c.requires c.if-self.false in
    let ends = held_object_end s.cells.items s.text.items s.parent s.count q.0 q.1 q.2 in
    record { is_open = ends.is_open; fits = ends.fits }

pub returns-clause-held : goal.returns-clause-held
returns-clause-held c ts h b =
    let s = c.args.self.now in
    let link : c.len-link.result ≡ length s.cells.items = c.len-link.ensures ∙ omega (arith, s.cells.ok.0) in
    let cells : c.close.new.self.cells.items ≡ slice_set s.cells.items s.parent (cell.Object (length s.cells.items) (s.count / 2)) = cc in
    held_same _ _ _ _ _ _ _ _ _ cells (cc) c.close.ensures.parent c.close.ensures.count (held_object_end s.cells.items s.text.items s.parent s.count ts h b).held
