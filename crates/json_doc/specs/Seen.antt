-- What clauses see of views.
use Rattle.std.specs.Prelude.{ℕ}
use Rattle.json_grammar.specs.Tree.{Tree}
use Rattle.json_doc.specs.Docs.{doc_cells, doc_tree}
use Rattle.json_doc.specs.Places.{child_of, key_position}
use Rattle.json_doc.specs.declared.doc.Doc.{Doc}
use Rattle.json_doc.specs.declared.view.DocView.{DocView}

-- the document that is seen
abbrev pub view_doc : DocView → Doc
view_doc v = v.doc.now

-- the place that is seen
abbrev pub view_place : DocView → ℕ
view_place v = v.at

-- the tree that is seen
abbrev pub view_tree : DocView → Tree
view_tree v = doc_tree (view_doc v) (view_place v)

-- the place of the child i of the container at a place: an element, or the value of a pair
abbrev pub child_place : Doc → ℕ → ℕ → ℕ
child_place d at i = child_of (doc_cells d) at i

-- the place of the key of the pair i of the object at a place
abbrev pub key_place : Doc → ℕ → ℕ → ℕ
key_place d at i = key_position (doc_cells d) at i
