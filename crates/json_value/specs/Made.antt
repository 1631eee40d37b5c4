-- Values with a list of their own.
use Rattle.std.specs.Prelude.{◌≡◌, List, Vec}
use Rattle.std.specs.declared.alloc.Global.{Global}
use Rattle.json_value.specs.Rows.{owned}
use Rattle.json_value.specs.declared.pair.Keyed.{Keyed}
use Rattle.json_value.specs.declared.value.Value.{Value, Array, Object}

-- an array with a list of its own, whose elements are so
abbrev pub IsArrayOf : (List Value → Type 0) → Value → Type 0
IsArrayOf So v = (list : Vec Value Global) × (v ≡ Array (owned list)) × So list.items

-- an object with a list of its own, whose members are so
abbrev pub IsObjectOf : (List (Keyed Value) → Type 0) → Value → Type 0
IsObjectOf So v = (list : Vec (Keyed Value) Global) × (v ≡ Object (owned list)) × So list.items
