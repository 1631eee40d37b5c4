-- The tree at each place of a document, from the last cell to the first.
use Rattle.std.specs.Prelude.{ℕ, pos, ◌+◌, ◌-◌, List, [], ◌∷◌, map, slice_range, slice_index_or}
use Rattle.std.specs.Fmt.{signed_decimal}
use Rattle.json_grammar.specs.Tree.{Tree, null, boolean, num, text, list, pairs, list_trees, list_pairs}
use Rattle.json_doc.specs.Places.{places_from}
use Rattle.json_doc.specs.declared.cell.Cell.{Cell}
use Rattle.json_doc.specs.declared.cell.Cell.TheVariants as cell

-- the bytes of a text
abbrev pub text_of_tree : Tree → List ℕ
text_of_tree (text s) = s
text_of_tree _ = []

-- the tree at the place k, out of those of all cells after the place at
abbrev pub tree_after : List Tree → ℕ → ℕ → Tree
tree_after ts at k = slice_index_or ts (k - (at + 1)) null

-- the value at the place k, and its key before it
abbrev pub pair_after : List Tree → ℕ → ℕ → List ℕ × Tree
pair_after ts at k = (text_of_tree (tree_after ts at (k - 1)), tree_after ts at k)

-- what the cell c at a place represents, over the trees of the cells after it
abbrev pub tree_of_cell : List Cell → List ℕ → ℕ → List Tree → Cell → Tree
tree_of_cell cells bytes at ts cell.Null = null
tree_of_cell cells bytes at ts (cell.Bool b) = boolean b
tree_of_cell cells bytes at ts (cell.Unsigned n) = num (signed_decimal (pos n))
tree_of_cell cells bytes at ts (cell.Negative n) = num (signed_decimal n)
tree_of_cell cells bytes at ts (cell.Raw start len) = num (slice_range bytes start (start + len))
tree_of_cell cells bytes at ts (cell.Str start len) = text (slice_range bytes start (start + len))
tree_of_cell cells bytes at ts (cell.Array link len) = list (list_trees (map (tree_after ts at) (places_from cells 0 (at + 1) len)))
tree_of_cell cells bytes at ts (cell.Object link len) = pairs (list_pairs (map (pair_after ts at) (places_from cells 1 (at + 2) len)))

-- the trees of the cells cs, which begin at a place
unfoldable pub trees_from : List Cell → List ℕ → ℕ → List Cell → List Tree
trees_from cells bytes at [] = []
trees_from cells bytes at (c ∷ cs) = tree_of_cell cells bytes at (trees_from cells bytes (at + 1) cs) c ∷ trees_from cells bytes (at + 1) cs

-- the tree at a place
abbrev pub tree_at_cell : List Cell → List ℕ → ℕ → Tree
tree_at_cell cells bytes at = slice_index_or (trees_from cells bytes 0 cells) at null
