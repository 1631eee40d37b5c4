-- Laws of values: what a first write makes, the positions of containers, and the values where steps
-- lead.
use Rattle.std.specs.Prelude.{◌≡◌, ◌<◌, ℕ, List, length, map, Option, Some, None, Ok, Err, Vec, IfSome, IsSome, IsErr, IsOkAnd, slice_get}
use Rattle.std.specs.List.{flat_map}
use Rattle.std.specs.declared.alloc.Global.{Global}
use Rattle.json_grammar.specs.Tree.{Tree}
use Rattle.json_doc.specs.Seen.{child_place, key_place}
use Rattle.json_doc.specs.declared.doc.Doc.{Doc}
use Rattle.json_model.specs.Edit.{Step, Changed, EditRefusal, at_path}
use Rattle.json_model.specs.Places.{part_at}
use Rattle.json_value.specs.Denotes.{tree_of, pair_of, list_in, pairs_in}
use Rattle.json_value.specs.Places.{places_in, member_places}
use Rattle.json_value.specs.Rows.{owned, owned_items_of, OwnsList}
use Rattle.json_value.specs.Positions.{position_in, doc_position, read_position, IsPlace}
use Rattle.json_value.specs.Steps.{tree_at}
use Rattle.json_value.specs.Written.{FirstElements, FirstMembers, value_in, pair_key_position}
use Rattle.json_value.specs.declared.container.Container.{Container}
use Rattle.json_value.specs.declared.pair.Keyed.{Keyed}
use Rattle.json_value.specs.declared.value.Value.{Value, Array, Object}

-- ---- what a first write makes

-- of an array in a document: each element is read from its place there
abbrev pub FirstElementsAreRead : Type 0
FirstElementsAreRead = (a : Container Value) (items : List Value) (d : Doc) (at : ℕ) → FirstElements a items → doc_position (Array a) ≡ Some (position_in d at)
    → (i : ℕ) → IfSome (slice_get items i) (λ v. doc_position v ≡ read_position d (child_place d at i))

-- of an object in a document: each key is the place of its string there, and each value is read
-- from its place
abbrev pub FirstMembersAreRead : Type 0
FirstMembersAreRead = (o : Container (Keyed Value)) (items : List (Keyed Value)) (d : Doc) (at : ℕ) → FirstMembers o items → doc_position (Object o) ≡ Some (position_in d at)
    → (i : ℕ) → IfSome (slice_get items i) (λ m. (pair_key_position m ≡ Some (position_in d (key_place d at i))) × (doc_position (value_in m) ≡ read_position d (child_place d at i)))

-- of an array in no document: its own list
abbrev pub FirstElementsStay : Type 0
FirstElementsStay = (a : Container Value) (items : List Value) → FirstElements a items → map tree_of items ≡ list_in a → doc_position (Array a) ≡ None → items ≡ owned_items_of a

-- of an object in no document: its own list
abbrev pub FirstMembersStay : Type 0
FirstMembersStay = (o : Container (Keyed Value)) (items : List (Keyed Value)) → FirstMembers o items → map pair_of items ≡ pairs_in o → doc_position (Object o) ≡ None → items ≡ owned_items_of o

-- ---- the positions of containers

-- an array with elements that is a place has that position
abbrev pub PackedArrayHasPosition : Type 0
PackedArrayHasPosition = (a : Container Value) → IsPlace a → 0 < length (list_in a) → IsSome (doc_position (Array a))

-- an object with members that is a place has that position
abbrev pub PackedObjectHasPosition : Type 0
PackedObjectHasPosition = (o : Container (Keyed Value)) → IsPlace o → 0 < length (pairs_in o) → IsSome (doc_position (Object o))

-- an array with a position is a place
abbrev pub PositionedArrayIsPlace : Type 0
PositionedArrayIsPlace = (a : Container Value) → IsSome (doc_position (Array a)) → IsPlace a

-- an object with a position is a place
abbrev pub PositionedObjectIsPlace : Type 0
PositionedObjectIsPlace = (o : Container (Keyed Value)) → IsSome (doc_position (Object o)) → IsPlace o

-- an array with a list of its own is no place
abbrev pub OwnArrayIsNoPlace : Type 0
OwnArrayIsNoPlace = (a : Container Value) → OwnsList a → IsPlace a → ⊥

-- an object with a list of its own is no place
abbrev pub OwnObjectIsNoPlace : Type 0
OwnObjectIsNoPlace = (o : Container (Keyed Value)) → OwnsList o → IsPlace o → ⊥

-- the parts of an array with a list of its own have the positions of those of its elements
abbrev pub PlacesOfElements : Type 0
PlacesOfElements = (list : Vec Value Global) → places_in (Array (owned list)) ≡ flat_map places_in list.items

-- the parts of an object with a list of its own have the positions of those of its members
abbrev pub PlacesOfMembers : Type 0
PlacesOfMembers = (list : Vec (Keyed Value) Global) → places_in (Object (owned list)) ≡ flat_map member_places list.items

-- ---- the values where steps lead

-- a change where steps lead is one of the tree to which they lead, which is there afterwards
abbrev pub ChangeIsThere : Type 0
ChangeIsThere = (p : List Step) (f : Tree → Changed Tree) (t u w : Tree) → tree_at p t ≡ Some u → f u ≡ Ok w → IsOkAnd (at_path p f t) (λ n. tree_at p n ≡ Some w)

-- where that tree refuses the change, the whole does
abbrev pub ChangeRefusedThere : Type 0
ChangeRefusedThere = (p : List Step) (f : Tree → Changed Tree) (t u : Tree) (e : EditRefusal) → tree_at p t ≡ Some u → f u ≡ Err e → at_path p f t ≡ Err e

-- where the steps lead nowhere, every change is refused
abbrev pub NoChangeNowhere : Type 0
NoChangeNowhere = (p : List Step) (f : Tree → Changed Tree) (t : Tree) → tree_at p t ≡ None → IsErr (at_path p f t)

-- steps lead where the definition of edits says that a path leads
abbrev pub StepsLeadToParts : Type 0
StepsLeadToParts = (p : List Step) (t : Tree) → tree_at p t ≡ part_at p t
