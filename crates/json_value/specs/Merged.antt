-- Members that are put into an object in turn.
use Rattle.std.specs.Prelude.{List, [], ◌∷◌, cond, bytes_eq}
use Rattle.json_value.specs.Denotes.{text_bytes}
use Rattle.json_value.specs.Written.{value_in, with_value}
use Rattle.json_value.specs.declared.pair.Keyed.{Keyed}
use Rattle.json_value.specs.declared.value.Value.{Value}

-- the members, the first of the member's key with its value, or the member after them where none
-- has the key
abbrev pub with_member : Keyed Value → List (Keyed Value) → List (Keyed Value)
with_member m [] = m ∷ []
with_member m (n ∷ ns) = cond (bytes_eq (text_bytes n.key) (text_bytes m.key)) (with_value n (value_in m) ∷ ns) (n ∷ with_member m ns)

-- each of these is put among the members, from the first on
abbrev pub with_members : List (Keyed Value) → List (Keyed Value) → List (Keyed Value)
with_members [] ns = ns
with_members (m ∷ ms) ns = with_members ms (with_member m ns)
