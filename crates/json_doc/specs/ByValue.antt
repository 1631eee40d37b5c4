-- Numbers by value: the integers that lie in `u64` or in `i64`, but for `-0`. Every other number is kept as its literal.
use Rattle.std.specs.Prelude.{ℕ, ℤ, pos, negsuc, List, [], Option, Some, None}
use Rattle.json_number.specs.Integers.{integer_in}
use Rattle.json_doc.specs.declared.cell.Cell.{Cell}
use Rattle.json_doc.specs.declared.cell.Cell.TheVariants as cell

-- the cell of an integer
abbrev pub integer_cell : ℤ → Cell
integer_cell (pos n) = cell.Unsigned n
integer_cell (negsuc n) = cell.Negative (negsuc n)

-- the integer of a cell that is one by value
abbrev pub value_of_cell : Cell → Option ℤ
value_of_cell (cell.Unsigned n) = Some (pos n)
value_of_cell (cell.Negative n) = Some n
value_of_cell _ = None

-- the bytes that are kept of a literal: none where it is an integer by value
abbrev pub raw_part : Option ℤ → List ℕ → List ℕ
raw_part (Some n) l = []
raw_part None l = l

abbrev pub kept_bytes : List ℕ → List ℕ
kept_bytes l = raw_part (integer_in l) l
