-- Containers in which nothing changed but that they had their first write.
use Rattle.std.proofs.Common.{◌≡◌, map, Vec, Global, inl, inr, refl, ap, ◌∙◌, subst}
use Rattle.json_value.proofs.HasLists.{by_list}
use Rattle.json_value.specs.Denotes.{tree_of, pair_of, list_in, pairs_in}
use Rattle.json_value.specs.Rows.{owned, OwnsList}
use Rattle.json_value.specs.Positions.{IsPlace}
use Rattle.json_value.specs.Written.{FirstElements, FirstMembers}
use Rattle.json_value.specs.declared.container.Container.{Container}
use Rattle.json_value.specs.declared.pair.Keyed.{Keyed}
use Rattle.json_value.specs.declared.value.Value.{Value}
use Rattle.json_containers.specs.Changed.{ArrayStays, ObjectStays}
use Rattle.json_containers.specs.Members.{own_members}

-- the array is as it was
pub array_as_it_was : (a : Container Value) → ArrayStays a a
array_as_it_was a = (refl, inl refl)

pub object_as_it_was : (o : Container (Keyed Value)) → ObjectStays o o
object_as_it_was o = (refl, inl refl)

-- the first write made the list v, and w has the same elements
pub array_unpacked : (a : Container Value) (v w : Vec Value Global) → map tree_of v.items ≡ list_in a → FirstElements a v.items → w.items ≡ v.items → ArrayStays a (owned w)
array_unpacked a v w same first items = (ap (map tree_of) items ∙ same, inr (record { first = v.items; list = w; same = same; unpacked = first; is = refl; changed = items }))

pub object_unpacked : (o : Container (Keyed Value)) (v w : Vec (Keyed Value) Global) → map pair_of v.items ≡ pairs_in o → FirstMembers o v.items → w.items ≡ v.items → ObjectStays o (owned w)
object_unpacked o v w same first items = (ap (map pair_of) items ∙ same, inr (record { first = v.items; list = w; same = same; unpacked = first; is = refl; changed = items }))

-- the first write made the list that n has
pub object_opened : (o n : Container (Keyed Value)) → OwnsList n → pairs_in n ≡ pairs_in o → FirstMembers o (own_members n) → ObjectStays o n
object_opened o n has = by_list (λ (c : Container (Keyed Value)). pairs_in c ≡ pairs_in o → FirstMembers o (own_members c) → ObjectStays o c) (λ v same first. object_unpacked o v v same first refl) n has

-- a container that has a list of its own is no place
pub own_no_place : {T : Type 0} (c : Container T) (v : Vec T Global) → c ≡ owned v → IsPlace c → ⊥
own_no_place {T} c v is place = subst (λ (x : Container T). IsPlace x) is place
