-- What holds of every packed document.
use Rattle.std.specs.Prelude.{◌≡◌, Some, None, ℕ, ℤ, ◌+◌, ◌-◌, ◌<◌, List, Bool, true, false, length, slice_range, slice_index_or}
use Rattle.std.specs.Str.{IsCharBoundary}
use Rattle.std.specs.Fmt.{signed_decimal}
use Rattle.json_grammar.specs.Grammar.{number}
use Rattle.json_number.specs.Integers.{integer_in}
use Rattle.json_doc.specs.ByValue.{value_of_cell}
use Rattle.json_doc.specs.CellReadings.{cell_len}
use Rattle.json_doc.specs.Places.{after_subtree, place_from, child_in}
use Rattle.json_doc.specs.declared.cell.Cell.{Cell}
use Rattle.json_doc.specs.declared.cell.Cell.TheVariants as cell

-- where the bytes of a cell begin; 0 where it has none
abbrev pub first_byte : Cell → ℕ
first_byte (cell.Raw start len) = start
first_byte (cell.Str start len) = start
first_byte _ = 0

-- how many bytes it has
abbrev pub span_of : Cell → ℕ
span_of (cell.Raw start len) = len
span_of (cell.Str start len) = len
span_of _ = 0

-- how many keys it has
abbrev pub keys_of : Cell → ℕ
keys_of (cell.Object link len) = len
keys_of _ = 0

-- whether it is the cell of a string or a key
abbrev pub is_str : Cell → Bool
is_str (cell.Str start len) = true
is_str _ = false

-- whether it names the literal of a number
abbrev pub is_raw : Cell → Bool
is_raw (cell.Raw start len) = true
is_raw _ = false

-- the cells before n values, from that at a place on, are those of keys
abbrev pub AllKeys : List Cell → ℕ → ℕ → Type 0
AllKeys cells at n = (i : ℕ) → i < n → is_str (slice_index_or cells (place_from cells 1 at i - 1) cell.Null) ≡ true

-- the bytes of a cell are a text, what follows a cell is at a later place, children have cells,
-- keys are strings, literals are numbers (RFC 8259, section 6) that are no integers by value, and
-- an integer by value is the one that its decimal text represents
pub record CellInPlace (cells : List Cell) (bytes : List ℕ) (at : ℕ) (c : Cell) : Type 0 where
  pub begins : IsCharBoundary bytes (first_byte c)
  pub ends : IsCharBoundary bytes (first_byte c + span_of c)
  pub ahead : at < after_subtree at c
  pub inside : (i : ℕ) → i < cell_len c → child_in cells at c i < length cells
  pub keyed : (i : ℕ) → i < keys_of c → is_str (slice_index_or cells (child_in cells at c i - 1) cell.Null) ≡ true
  pub numeric : is_raw c ≡ true → ∥ number (slice_range bytes (first_byte c) (first_byte c + span_of c)) ∥₁
  pub raw : is_raw c ≡ true → integer_in (slice_range bytes (first_byte c) (first_byte c + span_of c)) ≡ None
  pub valued : (n : ℤ) → value_of_cell c ≡ Some n → integer_in (signed_decimal n) ≡ Some n

-- so is each cell
abbrev pub CellsInPlace : List Cell → List ℕ → Type 0
CellsInPlace cells bytes = (k : ℕ) → k < length cells → CellInPlace cells bytes k (slice_index_or cells k cell.Null)
