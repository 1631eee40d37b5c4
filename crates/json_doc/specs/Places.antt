-- How the places of a document follow each other.
use Rattle.std.specs.Prelude.{ℕ, zero, suc, ◌+◌, ◌-◌, ◌<◌, List, [], ◌∷◌, length, slice_index_or}
use Rattle.json_doc.specs.declared.cell.Cell.{Cell}
use Rattle.json_doc.specs.declared.cell.Cell.TheVariants as cell

-- the place after the cell c at a place and all that is below it
abbrev pub after_subtree : ℕ → Cell → ℕ
after_subtree at (cell.Array link len) = link
after_subtree at (cell.Object link len) = link
after_subtree at _ = at + 1

-- the place after what is at a place
abbrev pub place_after : List Cell → ℕ → ℕ
place_after cells at = after_subtree at (slice_index_or cells at cell.Null)

-- n places, each after what is at the one before, and after the keys between them
abbrev pub places_from : List Cell → ℕ → ℕ → ℕ → List ℕ
places_from cells keys at zero = []
places_from cells keys at (suc n) = at ∷ places_from cells keys (place_after cells at + keys) n

-- the place that follows n of them
abbrev pub place_from : List Cell → ℕ → ℕ → ℕ → ℕ
place_from cells keys at zero = at
place_from cells keys at (suc n) = place_from cells keys (place_after cells at + keys) n

-- each of n of them is that of a cell
abbrev pub AllBelow : List Cell → ℕ → ℕ → ℕ → Type 0
AllBelow cells keys at n = (i : ℕ) → i < n → place_from cells keys at i < length cells

-- the place of the child i of the cell c at a place: an element, or the value of a pair, with its
-- key before it
abbrev pub child_in : List Cell → ℕ → Cell → ℕ → ℕ
child_in cells at (cell.Array link len) i = place_from cells 0 (at + 1) i
child_in cells at (cell.Object link len) i = place_from cells 1 (at + 2) i
child_in cells at _ i = 0

-- the same of what is at a place
abbrev pub child_of : List Cell → ℕ → ℕ → ℕ
child_of cells at i = child_in cells at (slice_index_or cells at cell.Null) i

-- the place of the key of the pair i
abbrev pub key_position : List Cell → ℕ → ℕ → ℕ
key_position cells at i = child_of cells at i - 1
