use Rattle.std.proofs.Common.{sym}
use Rattle.json_doc.specs.Docs.{doc_cells, doc_tree}
use Rattle.json_doc.proofs.Shown.{length-of_places}
use Rattle.json_doc.proofs.children.DocChildren.len.Goals as goal

pub returns : goal.returns
returns c = let s = c.args.self.now in sym (length-of_places (doc_tree s.doc.now) (doc_cells s.doc.now) s.keys s.next s.left)
