-- What clauses see of a document.
use Rattle.std.specs.Prelude.{ℕ, List, string_bytes}
use Rattle.json_grammar.specs.Tree.{Tree}
use Rattle.json_doc.specs.Spells.{CellsDenote}
use Rattle.json_doc.specs.Trees.{tree_at_cell}
use Rattle.json_doc.specs.declared.cell.Cell.{Cell}
use Rattle.json_doc.specs.declared.doc.Doc.{Doc}

-- its cells
abbrev pub doc_cells : Doc → List Cell
doc_cells d = d.cells.items

-- its texts, keys and literals in a row
abbrev pub doc_text : Doc → List ℕ
doc_text d = string_bytes d.text

-- the place of its root
abbrev pub doc_root : Doc → ℕ
doc_root d = d.root

-- it represents a tree
abbrev pub IsDocOf : Doc → Tree → Type 0
IsDocOf d t = CellsDenote (doc_cells d) (doc_text d) (doc_root d) t

-- the tree at a place
abbrev pub doc_tree : Doc → ℕ → Tree
doc_tree d at = tree_at_cell (doc_cells d) (doc_text d) at
