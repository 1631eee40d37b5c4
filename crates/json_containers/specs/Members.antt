-- The members of an object with an owned list, and what a write at one of them, or after them,
-- leaves.
use Rattle.std.specs.Prelude.{◌≡◌, ◌+◌, ◌-◌, ◌<◌, ℕ, Bool, List, [], ◌∷◌, ◌++◌, Option, Some, None, slice_get, Vec, option_map, cond}
use denote.Ref.{Bor, MutBor}
use denote.Param.Members.{Mut}
use Rattle.std.specs.Fn.{Called}
use Rattle.std.specs.Vec.{with_item}
use Rattle.std.specs.declared.alloc.Global.{Global}
use Rattle.std.proofs.Common.{arith, ◌∙◌, sym, ap, subst}
use Rattle.std.proofs.lemmas.List.{length-append}
use Rattle.json_value.specs.Denotes.{text_bytes}
use Rattle.json_value.specs.OwnLists.{with_list}
use Rattle.json_value.specs.Room.{spare_in}
use Rattle.json_value.specs.Rows.{owned, owned_items_of}
use Rattle.json_value.specs.Seen.{first_of}
use Rattle.json_value.specs.Written.{value_in, with_value}
use Rattle.json_value.specs.declared.container.Container.{Container}
use Rattle.json_value.specs.declared.pair.Keyed.{Keyed}
use Rattle.json_value.specs.declared.value.Value.{Value}

-- the members of an owned list
abbrev pub own_members : Container (Keyed Value) → List (Keyed Value)
own_members o = owned_items_of o

abbrev pub option_key : Option (Keyed Value) → List ℕ
option_key (Some m) = text_bytes m.key
option_key None = []

-- the key of the member at the index
abbrev pub key_at : List (Keyed Value) → ℕ → List ℕ
key_at ms i = option_key (slice_get ms i)

-- the list with w as the value of this member at the index, if there is one
abbrev pub with_value_of : Vec (Keyed Value) Global → ℕ → Value → Option (Keyed Value) → Vec (Keyed Value) Global
with_value_of v i w (Some m) = with_item v i (with_value m w)
with_value_of v i w None = v

-- the object with w as the value of the member at the index
abbrev pub object_with : Container (Keyed Value) → ℕ → Value → Container (Keyed Value)
object_with o i w = with_list o (λ v _. with_value_of v i w (slice_get v.items i))

-- a list with one member more, for which it has room
abbrev pub one_more : (v : Vec (Keyed Value) Global) → v.len < v.cap → Keyed Value → Vec (Keyed Value) Global
one_more v room m = record { ptr = v.ptr; len = v.len + 1; cap = v.cap; alloc = v.alloc; items = v.items ++ m ∷ []; ok = (ap (λ n. n + 1) v.ok.0 ∙ sym (length-append v.items (m ∷ [])), omega (arith, room)); small = v.small }

pub room_for : (n m : ℕ) → 0 < m - n → n < m
room_for n m h = omega (arith, h)

-- so where the list is that of a container with room
pub room_in_list : (o : Container (Keyed Value)) (v : Vec (Keyed Value) Global) → o ≡ owned v → 0 < spare_in o → v.len < v.cap
room_in_list o v is room = room_for v.len v.cap (subst (λ (c : Container (Keyed Value)). 0 < spare_in c) is room)

-- the object with one member more, for which it has room
abbrev pub object_more : (o : Container (Keyed Value)) → 0 < spare_in o → Keyed Value → Container (Keyed Value)
object_more o room m = with_list o (λ v is. one_more v (room_in_list o v is room) m)

-- the value of the first member of the key
abbrev pub first_member_value : {X : Type 0} → List ℕ → List (List ℕ × X) → Option X
first_member_value k ps = option_map (λ p. p.1) (first_of k ps)

-- a call of f at the key and at the value of m may give r, and leave f' and m'
pub record CalledAtMember {F : Type 0} (g : Mut F (Bor (List ℕ) × (MutBor Value × Unit {0})) (Bool × (MutBor Value × Unit {0}))) (f : F) (m : Keyed Value) (r : Bool) (f' : F) (m' : Keyed Value) : Type 0 where
  pub key : Bor (List ℕ)
  pub value : MutBor Value
  pub left : MutBor Value
  pub shows : (key.now ≡ text_bytes m.key) × (value.now ≡ value_in m)
  pub called : Called g f (key, (value, tt)) (r, (left, tt)) f'
  pub leaves : m' ≡ with_value m left.now

-- R went over the elements in turn, from s to t, and ys has those of which it said `true`, as it left them
abbrev pub RetainsTo : {S X : Type 0} → (S → X → Bool → S → X → Type 0) → S → List X → List X → S → Type 0
RetainsTo R s [] ys t = (ys ≡ []) × (t ≡ s)
RetainsTo {S} {X} R s (x ∷ xs) ys t = (b : Bool) × (u : S) × (y : X) × R s x b u y × (zs : List X) × RetainsTo R u xs zs t × (ys ≡ cond b (y ∷ zs) zs)
