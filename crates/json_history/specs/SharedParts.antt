-- What changes and edits to redo share with the value that they are made from: what they keep has
-- its positions, and nothing packed is copied.
use Rattle.std.specs.Prelude.{◌≡◌, ◌⊎◌, ◌-◌, ℕ, List, [], ◌∷◌, ◌++◌, Option, Some, Result, IfOk, IfSome, length, slice_get, ⊤}
use Rattle.std.specs.List.{All}
use Rattle.json_io.specs.declared.error.Error.{Error}
use Rattle.json_model.specs.Edit.{Step, index_step}
use Rattle.json_value.specs.Edits.{path_steps}
use Rattle.json_value.specs.Places.{places_in}
use Rattle.json_value.specs.TargetParts.{target_elements, target_members, target_along}
use Rattle.json_value.specs.ViewTargets.{ViewTarget, whole_value, target_value_position, target_places}
use Rattle.json_value.specs.Positions.{doc_position}
use Rattle.json_value.specs.Written.{value_in}
use Rattle.json_value.specs.declared.pair.Keyed.{Keyed}
use Rattle.json_value.specs.declared.path.Edit.{Edit}
use Rattle.json_value.specs.declared.path.Edit.TheVariants.{Set, Insert, Push, Remove}
use Rattle.json_value.specs.declared.value.Value.{Value}
use Rattle.json_history.specs.declared.change.Change.{Change}
use Rattle.json_history.specs.declared.change.Change.TheVariants.{Put, DropLast, PutBack, PutPairs}
use Rattle.json_history.specs.declared.redo.Redo.{Redo}

-- the value is at the position of what is seen, and so are its parts where a whole value is seen
abbrev pub SharesWith : ViewTarget → Value → Type 0
SharesWith target v = (doc_position v ≡ target_value_position target) × IfSome (target_places target) (λ places. places_in v ≡ places)

-- so with what the steps lead to from the root
pub record SharesAt (p : List Step) (root : ViewTarget) (v : Value) : Type 0 where
  pub target : ViewTarget
  pub there : target_along p root ≡ Some target
  pub shared : SharesWith target v

-- so a removed member with the member of its index
abbrev pub MemberShares : List (List ℕ × ViewTarget) → ℕ × Keyed Value → Type 0
MemberShares members m = (member : List ℕ × ViewTarget) × (slice_get members m.0 ≡ Some member) × SharesWith member.1 (value_in m.1)

-- so each removed member, in the object to which the steps lead
pub record MembersShareAt (p : List Step) (root : ViewTarget) (removed : List (ℕ × Keyed Value)) : Type 0 where
  pub target : ViewTarget
  pub members : List (List ℕ × ViewTarget)
  pub there : target_along p root ≡ Some target
  pub object : target_members target ≡ Some members
  pub shared : All (MemberShares members) removed

-- what a change keeps shares with what it was taken from, below the root
abbrev pub SharesParts : ViewTarget → Change → Type 0
SharesParts root (Put p old) = SharesAt (path_steps p) root old
SharesParts root (DropLast p) = ⊤
SharesParts root (PutBack p i old) = SharesAt (path_steps p ++ index_step i ∷ []) root old
SharesParts root (PutPairs p es) = MembersShareAt (path_steps p) root es.list.items

-- so the change of a result, if there is one, where the steps lead from the root to this target
abbrev pub ChangeShares : List Step → ViewTarget → Result (Option Change) Error → Type 0
ChangeShares p target r = (root : ViewTarget) → target_along p root ≡ Some target → IfOk r (λ o. IfSome o (SharesParts root))

-- one change was appended, which shares with the value
abbrev pub AppendsChange : Value → (changes changes' : List Change) → Type 0
AppendsChange v cs ds = (c : Change) × (ds ≡ cs ++ c ∷ []) × SharesParts (whole_value v) c

-- ---- edits to redo

-- the last of a list
abbrev pub last_of : {A : Type 0} → List A → Option A
last_of xs = slice_get xs (length xs - 1)

-- the value shares with the last element of the array to which the steps lead
pub record LastElementShares (p : List Step) (root : ViewTarget) (v : Value) : Type 0 where
  pub target : ViewTarget
  pub elements : List ViewTarget
  pub element : ViewTarget
  pub there : target_along p root ≡ Some target
  pub array : target_elements target ≡ Some elements
  pub last : last_of elements ≡ Some element
  pub shared : SharesWith element v

-- so with the last member of the object
pub record LastMemberShares (p : List Step) (root : ViewTarget) (v : Value) : Type 0 where
  pub target : ViewTarget
  pub members : List (List ℕ × ViewTarget)
  pub member : List ℕ × ViewTarget
  pub there : target_along p root ≡ Some target
  pub object : target_members target ≡ Some members
  pub last : last_of members ≡ Some member
  pub shared : SharesWith member.1 v

-- what an edit to redo puts shares with what the undo takes out, below the root
abbrev pub EditSharesParts : ViewTarget → Edit → Type 0
EditSharesParts root (Set p v) = SharesAt (path_steps p) root v
EditSharesParts root (Insert p k v) = LastMemberShares (path_steps p) root v
EditSharesParts root (Push p v) = LastElementShares (path_steps p) root v
EditSharesParts root (Remove p s) = ⊤

-- so the edit of a result, if there is one, where the steps lead from the root to this target
abbrev pub EditShares : List Step → ViewTarget → Result (Option Edit) Error → Type 0
EditShares p target r = (root : ViewTarget) → target_along p root ≡ Some target → IfOk r (λ o. IfSome o (EditSharesParts root))

-- where they lead to an array of these elements, or to an object of these members
abbrev pub EditSharesElement : List Step → List ViewTarget → Result (Option Edit) Error → Type 0
EditSharesElement p elements r = (target : ViewTarget) → target_elements target ≡ Some elements → EditShares p target r

abbrev pub EditSharesMember : List Step → List (List ℕ × ViewTarget) → Result (Option Edit) Error → Type 0
EditSharesMember p members r = (target : ViewTarget) → target_members target ≡ Some members → EditShares p target r

-- the last change became the last edit to redo, or there was no change
abbrev pub MovesToRedos : Value → (changes changes' : List Change) → (redos redos' : List Redo) → Type 0
MovesToRedos v cs ds rs qs = ((cs ≡ []) × (ds ≡ []) × (qs ≡ rs)) ⊎ ((r : Redo) × (cs ≡ ds ++ r.change ∷ []) × (qs ≡ rs ++ r ∷ []) × EditSharesParts (whole_value v) r.edit)

-- the change of the last edit to redo became the last change, or there was no edit to redo
abbrev pub MovesToChanges : (changes changes' : List Change) → (redos redos' : List Redo) → Type 0
MovesToChanges cs ds rs qs = ((rs ≡ []) × (qs ≡ []) × (ds ≡ cs)) ⊎ ((r : Redo) × (rs ≡ qs ++ r ∷ []) × (ds ≡ cs ++ r.change ∷ []))
