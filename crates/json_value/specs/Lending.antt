-- What calls lend inside a value, and what a write there changes.
use denote.RattleType.{RattleType}
use Rattle.std.specs.Prelude.{◌≡◌, ◌⊎◌, List, [], ◌∷◌, ℕ, Option, Some, None, IfSome, IfOk, IfErr, Result, Ok, Err, Vec, cond, map}
use Rattle.std.specs.Borrow.{follows_so, name_if_ok, LendsSoOk, MutBor, Fml, GName}
use mathlib.Core.Option as maybe
use Rattle.std.specs.declared.alloc.Global.{Global}
use Rattle.json_grammar.specs.Tree.{Tree, null, list, pairs, Pairs, no_pairs, pair_and, list_trees, list_pairs}
use Rattle.json_io.specs.Errors.{no_memory, type_unmatched}
use Rattle.json_io.specs.declared.error.Error.{Error}
use Rattle.json_io.specs.declared.error.ErrorCode.{ErrorCode}
use Rattle.json_io.specs.declared.error.ErrorCode.TheVariants.{NoMemory}
use Rattle.json_model.specs.Edit.{Step, key_step, index_step, Changed, at_path, edited_once, set_at, at_index, on_list, on_pairs, inserted, has_key}
use Rattle.json_value.specs.Denotes.{tree_of, pair_of}
use Rattle.json_value.specs.Edits.{RefusesChange, inserted_in, pushed_in}
use Rattle.json_value.specs.Rows.{value_row}
use Rattle.json_value.specs.Steps.{tree_at}
use Rattle.json_value.specs.Touched.{ArrayTouched, ObjectTouched, ReplacedBy, Exchanges, Same, ArrayKept, ObjectKept, KeptAlong, AppendsItem, UpsertsValue, ExchangesOrUpserts}
use Rattle.json_value.specs.declared.pair.Keyed.{Keyed}
use Rattle.json_value.specs.declared.value.Value.{Value, Null}
use Rattle.json_value.specs.declared.path.PointerNode.{PointerNode}
use Rattle.json_value.specs.declared.path.PointerNode.TheVariants.{Index}

-- null as an empty object, and any other tree as it is
abbrev pub null_as_object : Tree → Tree
null_as_object null = pairs no_pairs
null_as_object t = t

-- null as an object of this key with null, and any other tree as it is
abbrev pub opened_with : List ℕ → Tree → Tree
opened_with k null = pairs (pair_and k null no_pairs)
opened_with k t = t

-- the members, and then one of the key with null where none has the key
abbrev pub with_null_member : List ℕ → Pairs → Pairs
with_null_member k ps = cond (has_key k ps) ps (inserted k null ps)

-- the tree with u where the step leads; a key that is lacking is appended, and null counts as an empty object
abbrev pub put_or_insert : Step → Tree → Tree → Changed Tree
put_or_insert (key_step k) u t = on_pairs (λ ps. Ok (inserted k u ps)) (null_as_object t)
put_or_insert (index_step i) u t = on_list (at_index i (λ _. Ok u)) t

-- what is lent; none for a refusal but of want of memory
abbrev pub none_or : {X : Type 0} → ErrorCode → Error → Result (Option (MutBor X)) Error
none_or NoMemory e = Err e
none_or _ e = Ok None

abbrev pub missing_as_none : {X : Type 0} → Result (MutBor X) Error → Result (Option (MutBor X)) Error
missing_as_none (Ok x) = Ok (Some x)
missing_as_none (Err e) = none_or e.code e

-- what is lent, if something is
abbrev pub lent : {X E : Type 0} → Result (Option (MutBor X)) E → Option X
lent (Ok (Some r)) = Some r.now
lent (Ok None) = None
lent (Err _) = None

-- the name of the reference that is lent, if one is
abbrev pub lent_name : {X E : Type 0} → Result (Option (MutBor X)) E → maybe.Option GName
lent_name (Ok (Some r)) = maybe.some r.ghost_name
lent_name (Ok None) = maybe.none
lent_name (Err _) = maybe.none

abbrev pub name_of_ok : {X E : Type 0} → Result (MutBor X) E → maybe.Option GName
name_of_ok = name_if_ok (λ x. x.ghost_name)

-- a reference is lent, and none is
abbrev pub IsReferenceLent : maybe.Option GName → Type 0
IsReferenceLent maybe.none = ⊥
IsReferenceLent (maybe.some g) = Unit {0}

abbrev pub UnlessLent : maybe.Option GName → Type 0 → Type 0
UnlessLent maybe.none P = P
UnlessLent (maybe.some g) P = Unit {0}

-- a place in s is lent under the name m, or none is. With any w written there s ends as a value n with P n w, and where none is lent as P₀ says
abbrev pub LendsNamed : MutBor Value → maybe.Option GName → (Value → Value → Type 0) → (Value → Type 0) → Fml
LendsNamed s m P P₀ = follows_so value_row value_row s.ghost_name m (λ w n. IsReferenceLent m → P n w) (λ n. UnlessLent m (P₀ n))

-- w is put where the steps lead from old, in the place of x: so the tree of old becomes that of new, and what is beside the way stays as the first writes leave it
abbrev pub PutsAtPath : List Step → (x w old new : Value) → Type 0
PutsAtPath p x w old new = (edited_once (set_at p (tree_of w)) (tree_of old) ≡ Ok (tree_of new)) × Exchanges p x w old new

-- nothing is put where the steps lead from old: the tree stays, and so does the value, but for the first writes on the way
abbrev pub PutsNothing : List Step → (old new : Value) → Type 0
PutsNothing p old new = (tree_of new ≡ tree_of old) × KeptAlong p Same old new

-- nothing is appended to an array: the tree stays, and so does the value, but for its first write
abbrev pub AddsNothing : (old new : Value) → Type 0
AddsNothing old new = (tree_of new ≡ tree_of old) × ArrayKept Same old new

-- nothing is put into an object: the tree stays, and so does the value, but for its first write
abbrev pub UpsertsNothing : (old new : Value) → Type 0
UpsertsNothing old new = (tree_of new ≡ tree_of old) × ObjectKept Same old new

-- a place in s is lent, or none is, by a result: s ends as a value n with P x w n, where x is what stood at the place at first, and where none is lent as P₀ says
abbrev pub LendsPlace : {E : Type 0} → MutBor Value → Result (Option (MutBor Value)) E → (Value → Value → Value → Type 0) → (Value → Type 0) → Fml
LendsPlace s r P = LendsNamed s (lent_name r) (λ n w. IfSome (lent r) (λ x. P x w n))

-- where a step leads: what is written there is put there, and nothing else changes; nothing is put where nothing is lent
abbrev pub LendsStep : {E : Type 0} → MutBor Value → Step → Result (MutBor Value) E → Fml
LendsStep s step r = LendsSoOk value_row value_row s r (λ n w. IfOk r (λ v. PutsAtPath (step ∷ []) v.now w s.now n)) (PutsNothing (step ∷ []) s.now)

-- the same along a path
abbrev pub LendsAlong : {E : Type 0} → MutBor Value → List Step → Result (MutBor Value) E → Fml
LendsAlong s path r = LendsNamed s (name_of_ok r) (λ n w. IfOk r (λ v. PutsAtPath path v.now w s.now n)) (PutsNothing path s.now)

-- the first node of a path
abbrev pub first_node : List PointerNode → PointerNode
first_node [] = Index 0
first_node (s ∷ path) = s

-- what a result says of the place in t to which the steps lead: the tree there at first, or why
-- they lead nowhere
abbrev pub LeadsTo : List Step → Tree → Result (MutBor Value) Error → Type 0
LeadsTo p t (Ok x) = tree_at p t ≡ Some (tree_of x.now)
LeadsTo p t (Err e) = (f : Tree → Changed Tree) → RefusesChange (at_path p f t) e.code e.place

-- a part of s is lent, or none is. With any w written there s ends as an n with P n w, and where none is lent as P₀ says
abbrev pub LendsPart : (R T : RattleType) → {E : Type 0} → MutBor R.Denot → Result (Option (MutBor T.Denot)) E → (R.Denot → T.Denot → Type 0) → (R.Denot → Type 0) → Fml
LendsPart R T s r P P₀ = follows_so R T s.ghost_name (lent_name r) (λ w n. IsReferenceLent (lent_name r) → P n w) (λ n. UnlessLent (lent_name r) (P₀ n))

-- what a result tells of a container, if it was one: what is in it, and that it is opened so, or why it is not lent
abbrev pub Opens : {C A : Type 0} → (C → A) → Option A → (C → Type 0) → Result (MutBor C) Error → Type 0
Opens parts o Opened (Ok c) = (o ≡ Some (parts c.now)) × Opened c.now
Opens parts o Opened (Err e) = (e ≡ no_memory) ⊎ ((e ≡ type_unmatched) × (o ≡ None))

-- ---- what is written into a container that lends

-- w is put where the steps lead from old, in the place of what a result lends there
abbrev pub PutsAt : {E : Type 0} → List Step → Result (MutBor Value) E → (w old new : Value) → Type 0
PutsAt p r w old new = IfOk r (λ v. PutsAtPath p v.now w old new)

-- w is put at the first member of the key in an object, or appended with a member of its own
abbrev pub PutsMember : List ℕ → (w old new : Value) → Type 0
PutsMember k w old new = (inserted_in k (tree_of w) (tree_of old) ≡ Ok (tree_of new)) × UpsertsValue k w old new

-- w is appended to an array
abbrev pub AppendsElement : (w old new : Value) → Type 0
AppendsElement w old new = (pushed_in (tree_of w) (tree_of old) ≡ Ok (tree_of new)) × AppendsItem w old new

-- w is put where the step leads, in the place of what a result lends there, or with a member of its own
abbrev pub PutsOrInserts : {E : Type 0} → Step → Result (MutBor Value) E → (w old new : Value) → Type 0
PutsOrInserts s r w old new = (put_or_insert s (tree_of w) (tree_of old) ≡ Ok (tree_of new)) × IfOk r (λ v. ExchangesOrUpserts s v.now w old new)

-- a call failed as such an insertion does, or for want of memory
abbrev pub FailsToInsert : {A : Type 0} → Step → Tree → Result A Error → Type 0
FailsToInsert s t r = IfErr r (λ e. (u : Tree) → RefusesChange (put_or_insert s u t) e.code e.place)

-- an array becomes that of w, which is put in the place of the list that a result lends
abbrev pub BecomesList : {E : Type 0} → Result (MutBor (Vec Value Global)) E → Vec Value Global → (old new : Value) → Type 0
BecomesList r w old new = (tree_of new ≡ list (list_trees (map tree_of w.items))) × IfOk r (λ v. ArrayTouched (ReplacedBy v.now.items w.items) old new)

-- an object becomes that of w, which is put in the place of the members that a result lends
abbrev pub BecomesPairs : {E : Type 0} → Result (MutBor (Vec (Keyed Value) Global)) E → Vec (Keyed Value) Global → (old new : Value) → Type 0
BecomesPairs r w old new = (tree_of new ≡ pairs (list_pairs (map pair_of w.items))) × IfOk r (λ v. ObjectTouched (ReplacedBy v.now.items w.items) old new)

-- so of an object, or of null
abbrev pub BecomesPairsOrNull : {E : Type 0} → Result (MutBor (Vec (Keyed Value) Global)) E → Vec (Keyed Value) Global → (old new : Value) → Type 0
BecomesPairsOrNull r w old new = (tree_of new ≡ pairs (list_pairs (map pair_of w.items))) × IfOk r (λ v. (old ≡ Null) ⊎ ObjectTouched (ReplacedBy v.now.items w.items) old new)
