-- What an edit touches, and a write through a lent place. A container on the way becomes writable, by one level; all that is beside the change stays as the first write leaves it.
use Rattle.std.specs.Prelude.{◌≡◌, ℕ, List, [], ◌∷◌, ◌++◌, ◌⊎◌, Some, None, length, map, set, remove, filter, not, bytes_eq, slice_get, false, Vec}
use Rattle.std.specs.declared.alloc.Global.{Global}
use Rattle.json_grammar.specs.Tree.{list_pairs}
use Rattle.json_model.specs.Edit.{Step, key_step, index_step, has_key}
use Rattle.json_value.specs.Denotes.{tree_of, pair_of, text_bytes, list_in, pairs_in}
use Rattle.json_value.specs.FirstMember.{IsFirstOf}
use Rattle.json_value.specs.Rows.{owned}
use Rattle.json_value.specs.Places.{Origin, value_origin}
use Rattle.json_value.specs.Positions.{text_position}
use Rattle.json_value.specs.Written.{FirstElements, FirstMembers, value_in, with_value}
use Rattle.json_value.specs.declared.container.Container.{Container}
use Rattle.json_value.specs.declared.pair.Keyed.{Keyed}
use Rattle.json_value.specs.declared.path.PointerNode.{PointerNode}
use Rattle.json_value.specs.declared.path.PointerNode.TheVariants.{Key, Index}
use Rattle.json_value.specs.declared.path.Edit.{Edit}
use Rattle.json_value.specs.declared.path.Edit.TheVariants.{Set, Insert, Push, Remove}
use Rattle.json_value.specs.declared.text.Text.{Text}
use Rattle.json_value.specs.declared.value.Value.{Value, Null, Array, Object}

-- an array whose elements after its first write were changed so
pub record ArrayTouched (Changes : List Value → List Value → Type 0) (old new : Value) : Type 0 where
  pub array : Container Value
  pub first : List Value
  pub list : Vec Value Global
  pub was : old ≡ Array array
  pub same : map tree_of first ≡ list_in array
  pub unpacked : FirstElements array first
  pub is : new ≡ Array (owned list)
  pub changed : Changes first list.items

-- an object whose members after its first write were changed so
pub record ObjectTouched (Changes : List (Keyed Value) → List (Keyed Value) → Type 0) (old new : Value) : Type 0 where
  pub object : Container (Keyed Value)
  pub first : List (Keyed Value)
  pub list : Vec (Keyed Value) Global
  pub was : old ≡ Object object
  pub same : map pair_of first ≡ pairs_in object
  pub unpacked : FirstMembers object first
  pub is : new ≡ Object (owned list)
  pub changed : Changes first list.items

-- the element of the index was changed so, and no other
pub record AtElement (i : ℕ) (Changes : Value → Value → Type 0) (items now : List Value) : Type 0 where
  pub before : Value
  pub after : Value
  pub there : slice_get items i ≡ Some before
  pub exchanged : now ≡ set items i after
  pub changed : Changes before after

-- the value of the first member of the key was changed so, and nothing else
pub record AtMember (k : List ℕ) (Changes : Value → Value → Type 0) (items now : List (Keyed Value)) : Type 0 where
  pub at : ℕ
  pub before : Keyed Value
  pub after : Value
  pub is_first : IsFirstOf k (map pair_of items) at
  pub there : slice_get items at ≡ Some before
  pub exchanged : now ≡ set items at (with_value before after)
  pub changed : Changes (value_in before) after

-- such a member was added after the others, none of which has the key
pub record Appended (k : List ℕ) (Is : Keyed Value → Type 0) (items now : List (Keyed Value)) : Type 0 where
  pub member : Keyed Value
  pub none : has_key k (list_pairs (map pair_of items)) ≡ false
  pub more : now ≡ items ++ member ∷ []
  pub is : Is member

-- a member whose key has the position of this one, and whose value and its parts have those
-- positions
abbrev pub HasOrigin : Text → Origin → Keyed Value → Type 0
HasOrigin k s m = (text_position m.key ≡ text_position k) × (value_origin m.value ≡ s)

-- such a value was put in the first member of the key, or added with a member of its own
abbrev pub Inserts : Text → Origin → List (Keyed Value) → List (Keyed Value) → Type 0
Inserts k s items now = AtMember (text_bytes k) (λ before after. value_origin after ≡ s) items now ⊎ Appended (text_bytes k) (HasOrigin k s) items now

-- such a value was added after the others
abbrev pub Pushes : Origin → List Value → List Value → Type 0
Pushes s items now = (v : Value) × (value_origin v ≡ s) × (now ≡ items ++ v ∷ [])

-- the members but those of the key
abbrev pub unkeyed : List ℕ → List (Keyed Value) → List (Keyed Value)
unkeyed k items = filter (λ m. not (bytes_eq (text_bytes m.key) k)) items

-- what a removal leaves
abbrev pub RemovalTouches : PointerNode → Value → Value → Type 0
RemovalTouches (Key k) old new = ObjectTouched (λ items now. now ≡ unkeyed (text_bytes k) items) old new
RemovalTouches (Index i) old new = ArrayTouched (λ items now. now ≡ remove items i) old new

-- what the edit leaves of the value at its place
abbrev pub ChangeTouches : Edit → Value → Value → Type 0
ChangeTouches (Set p v) old new = value_origin new ≡ value_origin v
ChangeTouches (Insert p k v) old new = ObjectTouched (Inserts k (value_origin v)) old new
ChangeTouches (Push p v) old new = ArrayTouched (Pushes (value_origin v)) old new
ChangeTouches (Remove p s) old new = RemovalTouches s old new

-- the value to which the steps lead was changed so
abbrev pub Along : List Step → (Value → Value → Type 0) → Value → Value → Type 0
Along [] Changes old new = Changes old new
Along (key_step k ∷ p) Changes old new = ObjectTouched (AtMember k (Along p Changes)) old new
Along (index_step i ∷ p) Changes old new = ArrayTouched (AtElement i (Along p Changes)) old new

-- what the edit leaves of the value from which the steps lead to its place
abbrev pub Touches : List Step → Edit → Value → Value → Type 0
Touches p e = Along p (ChangeTouches e)

-- ---- where a call is refused, or leads nowhere

-- what was there is there
abbrev pub Same : {T : Type 0} → (old new : T) → Type 0
Same old new = new ≡ old

-- the value is as it was, or an array that had its first write, whose elements were then kept so
abbrev pub ArrayKept : (List Value → List Value → Type 0) → (old new : Value) → Type 0
ArrayKept Kept old new = (new ≡ old) ⊎ ArrayTouched Kept old new

-- the value is as it was, or an object that had its first write, whose members were then kept so
abbrev pub ObjectKept : (List (Keyed Value) → List (Keyed Value) → Type 0) → (old new : Value) → Type 0
ObjectKept Kept old new = (new ≡ old) ⊎ ObjectTouched Kept old new

-- the element of the index was kept so, and the others are as they were
abbrev pub ElementKept : ℕ → (Value → Value → Type 0) → (items now : List Value) → Type 0
ElementKept i Kept items now = (now ≡ items) ⊎ AtElement i Kept items now

-- the value of the first member of the key was kept so, and all else is as it was
abbrev pub MemberKept : List ℕ → (Value → Value → Type 0) → (items now : List (Keyed Value)) → Type 0
MemberKept k Kept items now = (now ≡ items) ⊎ AtMember k Kept items now

-- the value is as it was, or the containers on the way had their first write; the value to which the steps lead was kept so, and nothing else changed
abbrev pub KeptAlong : List Step → (Value → Value → Type 0) → (old new : Value) → Type 0
KeptAlong [] Kept old new = Kept old new
KeptAlong (key_step k ∷ p) Kept old new = ObjectKept (MemberKept k (KeptAlong p Kept)) old new
KeptAlong (index_step i ∷ p) Kept old new = ArrayKept (ElementKept i (KeptAlong p Kept)) old new

-- what a removal that is refused leaves
abbrev pub RemovalKeeps : PointerNode → (old new : Value) → Type 0
RemovalKeeps (Key k) old new = ObjectKept Same old new
RemovalKeeps (Index i) old new = ArrayKept Same old new

-- what the edit leaves of the value at its place, if it is refused: a container that it was to change may have had its first write
abbrev pub ChangeKeeps : Edit → (old new : Value) → Type 0
ChangeKeeps (Set p v) old new = new ≡ old
ChangeKeeps (Insert p k v) old new = ObjectKept Same old new
ChangeKeeps (Push p v) old new = ArrayKept Same old new
ChangeKeeps (Remove p s) old new = RemovalKeeps s old new

-- what the edit leaves of the value from which the steps lead to its place, if it is refused
abbrev pub KeepsOnRefusal : List Step → Edit → (old new : Value) → Type 0
KeepsOnRefusal p e = KeptAlong p (ChangeKeeps e)

-- ---- through a lent place

-- x was there, and w is there now
abbrev pub ReplacedBy : {T : Type 0} → (x w before after : T) → Type 0
ReplacedBy x w before after = (before ≡ x) × (after ≡ w)

-- w came to where the steps lead, in the place of x
abbrev pub Exchanges : List Step → (x w old new : Value) → Type 0
Exchanges p x w = Along p (ReplacedBy x w)

-- w was added after the other elements
abbrev pub AppendsItem : (w old new : Value) → Type 0
AppendsItem w = ArrayTouched (λ items now. now ≡ items ++ w ∷ [])

-- a member of this value, whose key is no place
abbrev pub OfValue : Value → Keyed Value → Type 0
OfValue w m = (text_position m.key ≡ None) × (m.value ≡ w)

-- a member of the key with null was added after the others where none has the key, and then it is
-- the member at i
abbrev pub UpsertedAt : List ℕ → ℕ → (items now : List (Keyed Value)) → Type 0
UpsertedAt k i items now = (now ≡ items) ⊎ ((i ≡ length items) × Appended k (OfValue Null) items now)

-- the value of the first member of the key was changed so, or w came with a member of its own
abbrev pub Upserts : List ℕ → (Value → Value → Type 0) → (w old new : Value) → Type 0
Upserts k Changes w = ObjectTouched (λ items now. AtMember k Changes items now ⊎ Appended k (OfValue w) items now)

-- w came to the member of the key
abbrev pub UpsertsValue : List ℕ → (w old new : Value) → Type 0
UpsertsValue k w = Upserts k (λ before after. after ≡ w) w

-- w came to where the step leads, in the place of x, or with a member of its own; null has no other members
abbrev pub ExchangesOrUpserts : Step → (x w old new : Value) → Type 0
ExchangesOrUpserts (key_step k) x w old new = (old ≡ Null) ⊎ Upserts k (ReplacedBy x w) w old new
ExchangesOrUpserts (index_step i) x w old new = Exchanges (index_step i ∷ []) x w old new
