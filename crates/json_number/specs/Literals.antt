-- The literal of a raw number.
use Rattle.std.specs.Prelude.{ℕ, List, string_bytes}
use Rattle.json_number.specs.declared.raw_number.RawNumber.{RawNumber}

abbrev pub raw_literal : RawNumber → List ℕ
raw_literal r = string_bytes r.literal
