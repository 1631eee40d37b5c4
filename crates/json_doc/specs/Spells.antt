-- When a packed document represents a tree.
use Rattle.std.specs.Prelude.{◌≡◌, ℕ, ℤ, Option, None, ◌+◌, List, length, Some, slice_get, slice_range}
use Rattle.std.specs.Fmt.{signed_decimal}
use Rattle.json_grammar.specs.Tree.{Tree, null, boolean, num, text, list, pairs, Trees, no_trees, tree_and, Pairs, no_pairs, pair_and, tokens}
use Rattle.json_grammar.specs.Sizes.{nodes}
use Rattle.json_number.specs.Integers.{integer_in}
use Rattle.json_doc.specs.ByValue.{integer_cell}
use Rattle.json_doc.specs.Texts.{trees_count, pairs_count, tokens_text}
use Rattle.json_doc.specs.declared.cell.Cell.{Cell}
use Rattle.json_doc.specs.declared.cell.Cell.TheVariants as cell

-- the cell at a place names exactly the bytes of a text
abbrev pub spells_text : List Cell → List ℕ → ℕ → List ℕ → Type 0
spells_text cells bytes at s = (start : ℕ) × (slice_get cells at ≡ Some (cell.Str start (length s))) × (slice_range bytes start (start + length s) ≡ s)

-- the cell at a place names exactly the bytes of a number's literal
abbrev pub spells_literal : List Cell → List ℕ → ℕ → List ℕ → Type 0
spells_literal cells bytes at l = (start : ℕ) × (slice_get cells at ≡ Some (cell.Raw start (length l))) × (slice_range bytes start (start + length l) ≡ l)

-- the cell at a place is the integer, whose decimal text the literal is, or where there is none it names the bytes of the literal
abbrev pub spells_number : Option ℤ → List Cell → List ℕ → ℕ → List ℕ → Type 0
spells_number (Some n) cells bytes at l = (slice_get cells at ≡ Some (integer_cell n)) × (l ≡ signed_decimal n)
spells_number None cells bytes at l = spells_literal cells bytes at l

-- the cells from a place up to an end represent a tree: a container's cell says how many members it
-- has and where it ends, and they follow it
abbrev mutual
  pub spells : List Cell → List ℕ → ℕ → Tree → ℕ → Type 0
  spells cells bytes at null end = (slice_get cells at ≡ Some cell.Null) × (end ≡ at + 1)
  spells cells bytes at (boolean b) end = (slice_get cells at ≡ Some (cell.Bool b)) × (end ≡ at + 1)
  spells cells bytes at (num l) end = spells_number (integer_in l) cells bytes at l × (end ≡ at + 1)
  spells cells bytes at (text s) end = spells_text cells bytes at s × (end ≡ at + 1)
  spells cells bytes at (list ts) end = (slice_get cells at ≡ Some (cell.Array end (trees_count ts))) × spells_trees cells bytes (at + 1) ts end
  spells cells bytes at (pairs ps) end = (slice_get cells at ≡ Some (cell.Object end (pairs_count ps))) × spells_pairs cells bytes (at + 1) ps end

  -- these trees, each from the end of the one before
  pub spells_trees : List Cell → List ℕ → ℕ → Trees → ℕ → Type 0
  spells_trees cells bytes at no_trees end = end ≡ at
  spells_trees cells bytes at (tree_and t ts) end = (mid : ℕ) × spells cells bytes at t mid × spells_trees cells bytes mid ts end

  -- a key and its value in turn
  pub spells_pairs : List Cell → List ℕ → ℕ → Pairs → ℕ → Type 0
  spells_pairs cells bytes at no_pairs end = end ≡ at
  spells_pairs cells bytes at (pair_and k t ps) end = (mid : ℕ) × spells_text cells bytes at k × spells cells bytes (at + 1) t mid × spells_pairs cells bytes mid ps end

-- cells and bytes represent a tree, from the first cell on, with nothing besides
pub record CellsDenote (cells : List Cell) (bytes : List ℕ) (root : ℕ) (t : Tree) : Type 0 where
  pub first : root ≡ 0
  pub spelled : spells cells bytes root t (length cells)
  pub counted : length cells ≡ nodes t
  pub in_order : bytes ≡ tokens_text (tokens t)
