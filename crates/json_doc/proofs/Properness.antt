-- Each tree of a document is proper.
use Rattle.std.proofs.Common.{ℕ, pos, zero, suc, ◌+◌, ◌-◌, ◌<◌, List, [], ◌∷◌, length, get_or, map, refl, arith}
use Rattle.std.specs.Str.{IsUtf8}
use Rattle.std.proofs.lemmas.Str.{IsUtf8-nil, IsUtf8-between, IsUtf8-string_bytes}
use Rattle.json_grammar.specs.Tree.{Tree, null, text, list_trees, list_pairs}
use Rattle.json_grammar.specs.Proper.{IsProper, AreProper, ArePairsProper}
use Rattle.json_number.proofs.Integers.{integer_number}
use Rattle.json_doc.specs.Docs.{doc_cells, doc_text, doc_tree}
use Rattle.json_doc.specs.Shape.{CellInPlace}
use Rattle.json_doc.specs.Trees.{text_of_tree, tree_after, pair_after, tree_of_cell, trees_from}
use Rattle.json_doc.specs.declared.cell.Cell.{Cell}
use Rattle.json_doc.specs.declared.cell.Cell.TheVariants as cell
use Rattle.json_doc.specs.declared.doc.Doc.{Doc}
use Rattle.json_doc.specs.declared.view.DocView.{DocView}
use Rattle.json_doc.specs.Seen.{view_tree}
use Rattle.json_grammar.proofs.Numeric.{number_had}

AllProper : List Tree → Type 0
AllProper [] = Unit {0}
AllProper (t ∷ ts) = IsProper t × AllProper ts

-- past the last there is null
proper_get : (ts : List Tree) (k : ℕ) → AllProper ts → IsProper (get_or ts k null)
unfolding AllProper
proper_get [] k h = tt
proper_get (t ∷ ts) zero h = h.0
proper_get (t ∷ ts) (suc k) h = proper_get ts k h.1

text_proper : (t : Tree) → IsProper t → IsUtf8 (text_of_tree t)
text_proper (text s) h = h
text_proper _ h = IsUtf8-nil

-- children, by their places
module _ (ts : List Tree) (at : ℕ) (h : AllProper ts) where
  behind_proper : (k : ℕ) → IsProper (tree_after ts at k)
  behind_proper k = proper_get ts (k - (at + 1)) h

  listed_proper : (ks : List ℕ) → AreProper (list_trees (map (tree_after ts at) ks))
  listed_proper [] = tt
  listed_proper (k ∷ ks) = (behind_proper k, listed_proper ks)

  paired_proper : (ks : List ℕ) → ArePairsProper (list_pairs (map (pair_after ts at) ks))
  paired_proper [] = tt
  paired_proper (k ∷ ks) = (text_proper (tree_after ts at (k - 1)) (behind_proper (k - 1)), behind_proper k, paired_proper ks)

module _ (cells : List Cell) (bytes : List ℕ) (whole : IsUtf8 bytes) where
  cell_proper : (at k : ℕ) (ts : List Tree) (c : Cell) → CellInPlace cells bytes k c → AllProper ts → IsProper (tree_of_cell cells bytes at ts c)
  cell_proper at k ts cell.Null h p = tt
  cell_proper at k ts (cell.Bool b) h p = tt
  cell_proper at k ts (cell.Unsigned n) h p = integer_number (pos n) (h.valued (pos n) refl)
  cell_proper at k ts (cell.Negative n) h p = integer_number n (h.valued n refl)
  cell_proper at k ts (cell.Raw start len) h p = number_had _ (h.numeric refl)
  cell_proper at k ts (cell.Str start len) h p = IsUtf8-between bytes start (start + len) whole (omega arith) h.begins h.ends
  cell_proper at k ts (cell.Array link len) h p = listed_proper ts at p _
  cell_proper at k ts (cell.Object link len) h p = paired_proper ts at p _

  from_proper : (at : ℕ) (cs : List Cell) → ((k : ℕ) → k < length cs → (i : ℕ) × CellInPlace cells bytes i (get_or cs k cell.Null)) → AllProper (trees_from cells bytes at cs)
  unfolding AllProper trees_from
  from_proper at [] h = tt
  from_proper at (c ∷ cs) h =
      let first = h 0 (omega arith) in
      let rest = from_proper (at + 1) cs (λ k l. h (suc k) (omega arith)) in
      (cell_proper at first.0 _ c first.1 rest, rest)

pub doc_proper : (d : Doc) (at : ℕ) → at < length (doc_cells d) → IsProper (doc_tree d at)
doc_proper d at h = proper_get _ at (from_proper (doc_cells d) (doc_text d) (IsUtf8-string_bytes d.text) 0 (doc_cells d) (λ k l. (k, d.in_place k l)))

pub view_proper : (v : DocView) → IsProper (view_tree v)
view_proper v = doc_proper v.doc.now v.at v.inside
