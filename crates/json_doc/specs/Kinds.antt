-- The numbers of the kinds of values.
use Rattle.std.specs.Prelude.{ℕ}
use Rattle.json_doc.specs.declared.json_type.JsonType.{JsonType}
use Rattle.json_doc.specs.declared.json_type.JsonType.TheVariants as kind

-- the number of a kind
abbrev pub type_number : JsonType → ℕ
type_number kind.Null = 0
type_number kind.Boolean = 1
type_number kind.Number = 2
type_number kind.String = 3
type_number kind.Object = 4
type_number kind.Array = 5
