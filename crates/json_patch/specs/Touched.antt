-- What operations change in a value: the levels that they write. A container on the way becomes
-- writable, by one level. All that is beside the change stays as the first write leaves it.
use Rattle.std.specs.Prelude.{◌≡◌, ◌⊎◌, ℕ, List, [], ◌∷◌, ◌++◌, Ok, remove}
use Rattle.std.specs.List.{insert}
use Rattle.json_doc.specs.Readings.{elements}
use Rattle.json_grammar.specs.Tree.{Tree}
use Rattle.json_model.specs.Edit.{Step, key_step, index_step}
use Rattle.json_value.specs.Denotes.{tree_of}
use Rattle.json_value.specs.Places.{value_origin}
use Rattle.json_value.specs.Touched.{ArrayTouched, ObjectTouched, AtMember, Appended, Along, unkeyed}
use Rattle.json_value.specs.declared.pair.Keyed.{Keyed}
use Rattle.json_value.specs.declared.value.Value.{Value}
use Rattle.json_patch.specs.Pointer.{ReferenceToken, path_of_tokens}
use Rattle.json_patch.specs.Patch as model
use Rattle.json_patch.specs.Patch.{split_last, operations_from}

-- ---- one container

-- v came to the first member of the key, or with a member of its own
abbrev pub InsertsMember : List ℕ → Value → List (Keyed Value) → List (Keyed Value) → Type 0
InsertsMember k v items now = AtMember k (λ before after. after ≡ v) items now ⊎ Appended k (λ m. m.value ≡ v) items now

-- v came before the element at some index, or after the last
abbrev pub InsertsElement : Value → List Value → List Value → Type 0
InsertsElement v items now = ((i : ℕ) × (now ≡ insert items i v)) ⊎ (now ≡ items ++ v ∷ [])

-- v came to an object under the key, or to an array
abbrev pub AddTouches : ReferenceToken → Value → Value → Value → Type 0
AddTouches k v old new = ObjectTouched (InsertsMember k v) old new ⊎ ArrayTouched (InsertsElement v) old new

-- the members of a key, or an element, were removed
abbrev pub RemoveTouches : Step → Value → Value → Type 0
RemoveTouches (key_step k) old new = ObjectTouched (λ items now. now ≡ unkeyed k items) old new
RemoveTouches (index_step i) old new = ArrayTouched (λ items now. now ≡ remove items i) old new

abbrev pub RemovesChild : Value → Value → Type 0
RemovesChild old new = (s : Step) × RemoveTouches s old new

-- ---- where tokens reference

-- the value that the tokens reference was changed so
pub record TouchesAt (tokens : List ReferenceToken) (Changes : Value → Value → Type 0) (old new : Value) : Type 0 where
  pub path : List Step
  pub is : path_of_tokens tokens (tree_of old) ≡ Ok path
  pub changed : Along path Changes old new

abbrev pub AddsValue : List ReferenceToken → Value → Value → Value → Type 0
AddsValue [] v old new = new ≡ v
AddsValue (k ∷ p) v old new = let l = split_last k p in TouchesAt l.0 (AddTouches l.1 v) old new

abbrev pub RemovesValue : List ReferenceToken → Value → Value → Type 0
RemovesValue [] old new = ⊥
RemovesValue (k ∷ p) old new = TouchesAt (split_last k p).0 RemovesChild old new

abbrev pub ReplacesValue : List ReferenceToken → Value → Value → Value → Type 0
ReplacesValue p v old new = TouchesAt p (λ before after. after ≡ v) old new

-- ---- a patch

-- a value of this tree was added, or put in place of another
abbrev pub AddsTree : List ReferenceToken → Tree → Value → Value → Type 0
AddsTree p u old new = (v : Value) × (tree_of v ≡ u) × AddsValue p v old new

abbrev pub ReplacesByTree : List ReferenceToken → Tree → Value → Value → Type 0
ReplacesByTree p u old new = (v : Value) × (tree_of v ≡ u) × ReplacesValue p v old new

-- a value was removed and added, unless it is already there
abbrev pub MovesValue : List ReferenceToken → List ReferenceToken → Value → Value → Type 0
MovesValue q p old new = (new ≡ old) ⊎ ((mid : Value) × (v : Value) × RemovesValue q old mid × AddsValue p v mid new)

abbrev pub CopiesValue : List ReferenceToken → Value → Value → Type 0
CopiesValue p old new = (v : Value) × AddsValue p v old new

-- what an operation changes (RFC 6902, section 4); a test changes nothing
abbrev pub OperationTouches : model.Operation → Value → Value → Type 0
OperationTouches (model.add_at p u) old new = AddsTree p u old new
OperationTouches (model.remove p) old new = RemovesValue p old new
OperationTouches (model.replace p u) old new = ReplacesByTree p u old new
OperationTouches (model.move q p) old new = MovesValue q p old new
OperationTouches (model.copy q p) old new = CopiesValue p old new
OperationTouches (model.test p u) old new = new ≡ old

-- what operations change in turn
abbrev pub OperationsTouch : List model.Operation → Value → Value → Type 0
OperationsTouch [] old new = new ≡ old
OperationsTouch (o ∷ os) old new = (mid : Value) × OperationTouches o old mid × OperationsTouch os mid new

-- what the operations that are these trees change in turn
pub record TouchesInTurn (trees : List Tree) (old new : Value) : Type 0 where
  pub operations : List model.Operation
  pub are : operations_from 0 trees ≡ Ok operations
  pub changed : OperationsTouch operations old new

-- the operations of a patch changed a copy whose parts are where those of the old value are
pub record PatchTouches (patch : Tree) (old new : Value) : Type 0 where
  pub copy : Value
  pub same : value_origin copy ≡ value_origin old
  pub changed : TouchesInTurn (elements patch) copy new
