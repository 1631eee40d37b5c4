-- What an iterator over children or pairs has still to give.
use Rattle.std.specs.Prelude.{◌≡◌, ℕ, ◌+◌, ◌-◌, List, map, Option, IfSome}
use Rattle.std.specs.Iterator.{YieldsFirstBy}
use Rattle.std.specs.Borrow.{Bor}
use Rattle.json_grammar.specs.Tree.{Tree}
use Rattle.json_doc.specs.Docs.{doc_cells, doc_tree}
use Rattle.json_doc.specs.Places.{places_from}
use Rattle.json_doc.specs.Trees.{text_of_tree}
use Rattle.json_doc.specs.declared.doc.Doc.{Doc}
use Rattle.json_doc.specs.Seen.{view_doc, view_place, view_tree}
use Rattle.json_doc.specs.declared.children.DocChildren.{DocChildren}
use Rattle.json_doc.specs.declared.pairs.DocPairs.{DocPairs}
use Rattle.json_doc.specs.declared.view.DocView.{DocView}

-- the document whose children it gives
abbrev pub children_doc : DocChildren → Doc
children_doc s = s.doc.now

-- their places
abbrev pub children_places : DocChildren → List ℕ
children_places s = places_from (doc_cells (children_doc s)) s.keys s.next s.left

-- their trees
abbrev pub children_left : DocChildren → List Tree
children_left s = map (doc_tree (children_doc s)) (children_places s)

-- a call gave the first of what was left: its tree, at its place of the same document
abbrev pub GivesChild : DocChildren → Option DocView → DocChildren → Type 0
GivesChild s r t =
    YieldsFirstBy view_tree children_left s r t × YieldsFirstBy view_place children_places s r t × (children_doc t ≡ children_doc s) × IfSome r (λ v. view_doc v ≡ children_doc s)

-- the value at a place, and its key before it
abbrev pub doc_pair : Doc → ℕ → List ℕ × Tree
doc_pair d at = (text_of_tree (doc_tree d (at - 1)), doc_tree d at)

-- a key and the tree of a value, as they are given
abbrev pub pair_seen : Bor (List ℕ) × DocView → List ℕ × Tree
pair_seen p = (p.0.now, view_tree p.1)

-- where the value is
abbrev pub pair_place : Bor (List ℕ) × DocView → ℕ
pair_place p = view_place p.1

-- the document whose pairs it gives
abbrev pub pairs_doc : DocPairs → Doc
pairs_doc s = s.doc.now

-- the places of their values
abbrev pub places_of_pairs : DocPairs → List ℕ
places_of_pairs s = places_from (doc_cells (pairs_doc s)) 1 (s.next + 1) s.left

-- their keys, each with the tree of its value
abbrev pub pairs_left : DocPairs → List (List ℕ × Tree)
pairs_left s = map (doc_pair (pairs_doc s)) (places_of_pairs s)

-- a call gave the first of what was left: its key and its value's tree, at its place of the same document
abbrev pub GivesPair : DocPairs → Option (Bor (List ℕ) × DocView) → DocPairs → Type 0
GivesPair s r t =
    YieldsFirstBy pair_seen pairs_left s r t × YieldsFirstBy pair_place places_of_pairs s r t × (pairs_doc t ≡ pairs_doc s) × IfSome r (λ p. view_doc p.1 ≡ pairs_doc s)
