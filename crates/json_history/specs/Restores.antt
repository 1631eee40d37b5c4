-- What an undo and a redo leave of a value: the containers on the path have had their first write,
-- and all beside the change stays as that leaves it.
use Rattle.std.specs.Prelude.{◌≡◌, ◌⊎◌, ℕ, List, [], ◌∷◌, ◌++◌, map, insert, Vec}
use Rattle.std.specs.declared.alloc.Global.{Global}
use Rattle.json_value.specs.Denotes.{tree_of, pair_of, list_in, pairs_in}
use Rattle.json_value.specs.Edits.{edit_path}
use Rattle.json_value.specs.Places.{Origin, value_origin}
use Rattle.json_value.specs.Rows.{owned}
use Rattle.json_value.specs.Touched.{ArrayTouched, ObjectTouched, ArrayKept, ObjectKept, Same, Along, KeptAlong, Touches, KeepsOnRefusal}
use Rattle.json_value.specs.Written.{FirstElements, FirstMembers, value_in}
use Rattle.json_value.specs.declared.container.Container.{Container}
use Rattle.json_value.specs.declared.pair.Keyed.{Keyed}
use Rattle.json_value.specs.declared.value.Value.{Value}
use Rattle.json_history.specs.ChangeTrees.{change_path}
use Rattle.json_history.specs.Target.{all_but_last}
use Rattle.json_history.specs.declared.change.Change.{Change}
use Rattle.json_history.specs.declared.change.Change.TheVariants.{Put, DropLast, PutBack, PutPairs}
use Rattle.json_history.specs.declared.redo.Redo.{Redo}
use Rattle.json_history.specs.declared.taken.Taken.{Taken}

-- the last one is gone
abbrev pub DropsLast : {A : Type 0} → (items now : List A) → Type 0
DropsLast items now = now ≡ all_but_last items

-- an element of this origin was inserted at the index
abbrev pub InsertsAt : ℕ → Origin → (items now : List Value) → Type 0
InsertsAt i origin items now = (v : Value) × (value_origin v ≡ origin) × (now ≡ insert items i v)

-- members inserted at their indexes, one after another
abbrev pub with_restored_members : List (ℕ × Keyed Value) → List (Keyed Value) → List (Keyed Value)
with_restored_members [] items = items
with_restored_members (m ∷ ms) items = with_restored_members ms (insert items m.0 m.1)

-- the index of a member, and the origin of its value
abbrev pub member_origin : ℕ × Keyed Value → ℕ × Origin
member_origin m = (m.0, value_origin (value_in m.1))

-- of removed members
abbrev pub origins_of : Taken → List (ℕ × Origin)
origins_of t = map member_origin t.list.items

-- members whose values have these origins were inserted at these indexes
abbrev pub InsertsMembers : List (ℕ × Origin) → (items now : List (Keyed Value)) → Type 0
InsertsMembers origins items now = (ms : List (ℕ × Keyed Value)) × (map member_origin ms ≡ origins) × (now ≡ with_restored_members ms items)

-- what an undo leaves of the value at the change's path
abbrev pub RestoresAt : Change → (old new : Value) → Type 0
RestoresAt (Put p v) old new = value_origin new ≡ value_origin v
RestoresAt (DropLast p) old new = ArrayTouched DropsLast old new ⊎ ObjectTouched DropsLast old new
RestoresAt (PutBack p i v) old new = ArrayTouched (InsertsAt i (value_origin v)) old new
RestoresAt (PutPairs p es) old new = ObjectTouched (InsertsMembers (origins_of es)) old new

-- what an undo that fails leaves of it: an array or object may have had its first write
abbrev pub RestoreKeeps : (old new : Value) → Type 0
RestoreKeeps old new = ArrayKept Same old new ⊎ ObjectKept Same old new

-- what an undo leaves of the value, where these are the changes, the latest last
abbrev pub UndoTouches : List Change → (old new : Value) → Type 0
UndoTouches cs old new =
    ((cs ≡ []) × (new ≡ old)) ⊎ ((before : List Change) × (c : Change) × (cs ≡ before ++ c ∷ []) × Along (change_path c) (RestoresAt c) old new)

-- what an undo that fails leaves of it
abbrev pub UndoKeeps : List Change → (old new : Value) → Type 0
UndoKeeps cs old new = (before : List Change) × (c : Change) × (cs ≡ before ++ c ∷ []) × KeptAlong (change_path c) RestoreKeeps old new

-- what a redo leaves of the value, where these are the edits to redo, the next last
abbrev pub RedoTouches : List Redo → (old new : Value) → Type 0
RedoTouches rs old new =
    ((rs ≡ []) × (new ≡ old)) ⊎ ((before : List Redo) × (r : Redo) × (rs ≡ before ++ r ∷ []) × Touches (edit_path r.edit) r.edit old new)

-- what a redo that fails leaves of it
abbrev pub RedoKeeps : List Redo → (old new : Value) → Type 0
RedoKeeps rs old new = (before : List Redo) × (r : Redo) × (rs ≡ before ++ r ∷ []) × KeepsOnRefusal (edit_path r.edit) r.edit old new

-- ---- of one array or object

-- the elements of an array after its first write were changed so
pub record ElementsTouched (Changes : List Value → List Value → Type 0) (old new : Container Value) : Type 0 where
  pub first : List Value
  pub list : Vec Value Global
  pub same : map tree_of first ≡ list_in old
  pub unpacked : FirstElements old first
  pub is : new ≡ owned list
  pub changed : Changes first list.items

-- the members of an object after its first write were changed so
pub record MembersTouched (Changes : List (Keyed Value) → List (Keyed Value) → Type 0) (old new : Container (Keyed Value)) : Type 0 where
  pub first : List (Keyed Value)
  pub list : Vec (Keyed Value) Global
  pub same : map pair_of first ≡ pairs_in old
  pub unpacked : FirstMembers old first
  pub is : new ≡ owned list
  pub changed : Changes first list.items
