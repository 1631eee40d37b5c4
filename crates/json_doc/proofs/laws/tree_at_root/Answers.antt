use Rattle.std.proofs.Common.{length}
use Rattle.json_doc.specs.Docs.{doc_cells, doc_text}
use Rattle.json_doc.proofs.Trees.{spelled}
use Rattle.json_doc.proofs.laws.tree_at_root.Goals as goal

pub returns : goal.returns
returns c d t h = spelled (doc_cells d) (doc_text d) d.in_place d.root (length (doc_cells d)) t h.spelled
