-- What calls leave of an array and of an object: the members after the first write, changed in one way.
use Rattle.std.specs.Prelude.{◌≡◌, ℕ, ◌+◌, ◌≤◌, Bool, List, ◌++◌, ◌⊎◌, length, map, Vec, Result, OnErr}
use Rattle.std.specs.List.{items_where_true}
use Rattle.std.specs.declared.alloc.Global.{Global}
use Rattle.json_value.specs.Denotes.{tree_of, pair_of, list_in, pairs_in}
use Rattle.json_value.specs.Places.{value_origin}
use Rattle.json_value.specs.Room.{spare_in}
use Rattle.json_value.specs.Rows.{owned, owned_items_of}
use Rattle.json_value.specs.Positions.{IsPlace}
use Rattle.json_value.specs.Written.{FirstElements, FirstMembers}
use Rattle.json_value.specs.declared.container.Container.{Container}
use Rattle.json_value.specs.declared.pair.Keyed.{Keyed}
use Rattle.json_value.specs.declared.value.Value.{Value}

-- an array whose elements after its first write were changed so
pub record ArrayChanged (Changes : List Value → List Value → Type 0) (old new : Container Value) : Type 0 where
  pub first : List Value
  pub list : Vec Value Global
  pub same : map tree_of first ≡ list_in old
  pub unpacked : FirstElements old first
  pub is : new ≡ owned list
  pub changed : Changes first list.items

-- an object whose members after its first write were changed so
pub record ObjectChanged (Changes : List (Keyed Value) → List (Keyed Value) → Type 0) (old new : Container (Keyed Value)) : Type 0 where
  pub first : List (Keyed Value)
  pub list : Vec (Keyed Value) Global
  pub same : map pair_of first ≡ pairs_in old
  pub unpacked : FirstMembers old first
  pub is : new ≡ owned list
  pub changed : Changes first list.items

-- they became these
abbrev pub ArrayBecame : (List Value → List Value) → (old new : Container Value) → Type 0
ArrayBecame f = ArrayChanged (λ items now. now ≡ f items)

abbrev pub ObjectBecame : (List (Keyed Value) → List (Keyed Value)) → (old new : Container (Keyed Value)) → Type 0
ObjectBecame f = ObjectChanged (λ items now. now ≡ f items)

-- nothing changed: the elements stay, and so does the array, but for its first write
abbrev pub ArrayStays : (old new : Container Value) → Type 0
ArrayStays old new = (list_in new ≡ list_in old) × ((new ≡ old) ⊎ ArrayBecame (λ items. items) old new)

-- so of the members of an object
abbrev pub ObjectStays : (old new : Container (Keyed Value)) → Type 0
ObjectStays old new = (pairs_in new ≡ pairs_in old) × ((new ≡ old) ⊎ ObjectBecame (λ items. items) old new)

-- one answer for each, and those are left of which the answer was true
abbrev pub RetainsWhereTrue : {A : Type 0} → (old new : List A) → Type 0
RetainsWhereTrue old new = (answers : List Bool) × (length answers ≡ length old) × (new ≡ items_where_true answers old)

-- room for one is taken at most
abbrev pub TakesRoomForOne : {T : Type 0} → (old new : Container T) → Type 0
TakesRoomForOne old new = spare_in old ≤ spare_in new + 1

-- n were taken out, and an owned or empty container keeps their room
abbrev pub KeepsRoom : {T : Type 0} → ℕ → (old new : Container T) → Type 0
KeepsRoom n old new = (IsPlace old → ⊥) → spare_in new ≡ n + spare_in old

-- copies of these were added after the others: they and their parts have the positions of these
abbrev pub AppendsCopies : List Value → (items now : List Value) → Type 0
AppendsCopies copied items now = (more : List Value) × (map value_origin more ≡ map value_origin copied) × (now ≡ items ++ more)

-- the elements of an owned list
abbrev pub own_elements : Container Value → List Value
own_elements a = owned_items_of a

-- an error changes no array
abbrev pub ArrayStaysOnErr : {A E : Type 0} → (old new : Container Value) → Result A E → Type 0
ArrayStaysOnErr old new result = OnErr result (ArrayStays old new)

-- an error changes no object
abbrev pub ObjectStaysOnErr : {A E : Type 0} → (old new : Container (Keyed Value)) → Result A E → Type 0
ObjectStaysOnErr old new result = OnErr result (ObjectStays old new)
