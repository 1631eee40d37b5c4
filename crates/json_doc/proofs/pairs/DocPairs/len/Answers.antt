use Rattle.std.proofs.Common.{◌+◌, sym}
use Rattle.json_doc.specs.Docs.{doc_cells}
use Rattle.json_doc.specs.Left.{doc_pair}
use Rattle.json_doc.proofs.Shown.{length-of_places}
use Rattle.json_doc.proofs.pairs.DocPairs.len.Goals as goal

pub returns : goal.returns
returns c = let s = c.args.self.now in sym (length-of_places (doc_pair s.doc.now) (doc_cells s.doc.now) 1 (s.next + 1) s.left)
