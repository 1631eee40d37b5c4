-- What the cell of an open container keeps.
use Rattle.std.specs.Prelude.{ℕ, List, slice_index_or}
use Rattle.json_doc.specs.CellReadings.{cell_len}
use Rattle.json_doc.specs.declared.cell.Cell.{Cell}
use Rattle.json_doc.specs.declared.cell.Cell.TheVariants as cell

-- the place of the container around it
abbrev pub link_of : Cell → ℕ
link_of (cell.Array link len) = link
link_of (cell.Object link len) = link
link_of _ = 0

-- so of the open container at a place, and how many elements, or keys and values, that has before it
abbrev pub outer_place : List Cell → ℕ → ℕ
outer_place cells at = link_of (slice_index_or cells at cell.Null)

abbrev pub outer_count : List Cell → ℕ → ℕ
outer_count cells at = cell_len (slice_index_or cells at cell.Null)
