-- What calls put among the members of an object, and take out of them.
use Rattle.std.specs.Prelude.{◌≡◌, ℕ, List, ◌⊎◌, Option, None, map}
use Rattle.json_value.specs.Denotes.{text_bytes}
use Rattle.json_value.specs.Places.{Origin, value_origin}
use Rattle.json_value.specs.Positions.{CellRef}
use Rattle.json_value.specs.Touched.{Appended, OfValue}
use Rattle.json_value.specs.Written.{value_in, pair_key_position}
use Rattle.json_value.specs.declared.pair.Keyed.{Keyed}
use Rattle.json_value.specs.declared.value.Value.{Value}
use Rattle.json_value.specs.Touched.{AtMember, unkeyed}
use Rattle.json_containers.specs.Members.{first_member_value}

-- a member, as its key and its value
abbrev pub named_value : Keyed Value → List ℕ × Value
named_value m = (text_bytes m.key, value_in m)

-- the first value of the key, itself
abbrev pub value_under : List ℕ → List (Keyed Value) → Option Value
value_under k items = first_member_value k (map named_value items)

-- w was put in the first member of the key, in the place of the value o, or added with a member of
-- its own after the others
abbrev pub PutsValue : List ℕ → Value → Option Value → (items now : List (Keyed Value)) → Type 0
PutsValue k w o items now =
    (o ≡ value_under k items) × (AtMember k (λ before after. after ≡ w) items now ⊎ Appended k (OfValue w) items now)

-- the members of the key went, and o is the value of the first
abbrev pub TakesOut : List ℕ → Option Value → (items now : List (Keyed Value)) → Type 0
TakesOut k o items now = (o ≡ value_under k items) × (now ≡ unkeyed k items)

-- the positions of a member's key, and of its value with its parts
abbrev pub stood_member : Keyed Value → Option CellRef × Origin
stood_member m = (pair_key_position m, value_origin (value_in m))

-- so of a copy of the member, whose key is no place
abbrev pub copied_member : Keyed Value → Option CellRef × Origin
copied_member m = (None, value_origin (value_in m))

-- copies of these: keys of their own, and values with the positions of theirs
abbrev pub AreCopies : (items copies : List (Keyed Value)) → Type 0
AreCopies items copies = map stood_member copies ≡ map copied_member items
