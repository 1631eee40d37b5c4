-- What can be read of a cell alone.
use Rattle.std.specs.Prelude.{ℕ, Bool, Option, Some, None}
use Rattle.json_doc.specs.declared.cell.Cell.{Cell}
use Rattle.json_doc.specs.declared.cell.Cell.TheVariants as cell
use Rattle.json_doc.specs.declared.json_type.JsonType.{JsonType}
use Rattle.json_doc.specs.declared.json_type.JsonType.TheVariants as kind

-- the kind of its value
abbrev pub cell_type : Cell → JsonType
cell_type cell.Null = kind.Null
cell_type (cell.Bool b) = kind.Boolean
cell_type (cell.Unsigned n) = kind.Number
cell_type (cell.Negative n) = kind.Number
cell_type (cell.Raw start len) = kind.Number
cell_type (cell.Str start len) = kind.String
cell_type (cell.Array link len) = kind.Array
cell_type (cell.Object link len) = kind.Object

-- its boolean
abbrev pub cell_bool : Cell → Option Bool
cell_bool (cell.Bool b) = Some b
cell_bool _ = None

-- how many elements or pairs it has
abbrev pub cell_len : Cell → ℕ
cell_len (cell.Array link len) = len
cell_len (cell.Object link len) = len
cell_len _ = 0
