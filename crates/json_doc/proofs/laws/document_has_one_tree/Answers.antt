use Rattle.std.proofs.Common.{◌∙◌, sym, length}
use Rattle.json_doc.specs.Docs.{doc_cells, doc_text}
use Rattle.json_doc.proofs.Trees.{spelled}
use Rattle.json_doc.proofs.laws.document_has_one_tree.Goals as goal

pub returns : goal.returns
returns c d t u h k =
    let end = length (doc_cells d) in
    sym (spelled (doc_cells d) (doc_text d) d.in_place d.root end t h.spelled) ∙ spelled (doc_cells d) (doc_text d) d.in_place d.root end u k.spelled
