-- What a first write makes, and the positions of containers.
use Rattle.std.proofs.Common.{◌≡◌, ◌<◌, ℕ, List, [], ◌∷◌, map, length, Bool, true, false, Option, Some, None, Vec, Global, refl, sym, ap, ◌∙◌, subst, arith}
use Rattle.std.specs.Prelude.{◌==◌, cond, option_and_then, slice_get, slice_index_or, IfSome, IsSome}
use Rattle.std.proofs.lemmas.List.Folds.{flat_map-map}
use Rattle.std.proofs.lemmas.Option.{none-some, same_Some}
use Rattle.json_grammar.specs.Tree.{Tree, null, boolean, num, text, list, pairs}
use Rattle.json_doc.specs.Kinds.{type_number}
use Rattle.json_doc.specs.Places.{child_of, key_position}
use Rattle.json_doc.specs.Readings.{elements, type_of}
use Rattle.json_doc.specs.declared.cell.Cell.TheVariants as cell
use Rattle.json_doc.specs.declared.json_type.JsonType.{JsonType}
use Rattle.json_doc.specs.declared.json_type.JsonType.TheVariants as kind
use Rattle.json_value.specs.Denotes.{tree_of, pair_of, form_list, form_pairs}
use Rattle.json_value.specs.Laws.{FirstElementsAreRead, FirstMembersAreRead, FirstElementsStay, FirstMembersStay, PackedArrayHasPosition, PackedObjectHasPosition, PositionedArrayIsPlace, PositionedObjectIsPlace, PlacesOfElements, PlacesOfMembers}
use Rattle.json_value.specs.Places.{places_in, member_places}
use Rattle.json_doc_print.specs.Readings.{members}
use Rattle.json_value.specs.Rows.{owned_items, IsOwned}
use Rattle.json_value.specs.Said.{place_tree}
use Rattle.json_value.specs.Positions.{CellRef, position_in, position_tree, doc_position, text_position, kind_position, form_position, kept_position, IsPacked, FirstList, FirstPairs}
use Rattle.json_value.specs.declared.container.Container.{Container}
use Rattle.json_value.specs.declared.container.Form.{Form}
use Rattle.json_value.specs.declared.container.Form.TheVariants.{Empty, Owned, Packed}
use Rattle.json_value.specs.declared.pair.Keyed.{Keyed}
use Rattle.json_value.specs.declared.value.Value.{Value}
use Rattle.json_value.proofs.PlacesKept.{array_of_form, object_of_form}
use Rattle.json_value.proofs.ValueLevels.{array_position, object_position}

-- ---- by the place alone

-- the position of a value that is read from a place
abbrev position_read : CellRef → Option CellRef
position_read s = kept_position (position_tree s) s

-- the place of the child i, and that of the key of the pair i
abbrev child_position : CellRef → ℕ → CellRef
child_position s i = record { cells = s.cells; bytes = s.bytes; at = child_of s.cells s.at i }

abbrev cell_key_position : CellRef → ℕ → CellRef
cell_key_position s i = record { cells = s.cells; bytes = s.bytes; at = key_position s.cells s.at i }

-- there is no other place of the kind
kind_there : (k : JsonType) (x s : CellRef) → kind_position k x ≡ Some s → x ≡ s
kind_there k x s e = by (type_number (type_of (position_tree x)) == type_number k) e
  where
    by : (b : Bool) → cond b (Some x) None ≡ Some s → x ≡ s
    by true is = same_Some x s is
    by false is = absurd (none-some s is)

-- ---- read from their places

elements_read : (f : Form Value) (items : List Value) (s : CellRef) → FirstList f items → option_and_then (kind_position kind.Array) (form_position f) ≡ Some s → (i : ℕ) → IfSome (slice_get items i) (λ v. doc_position v ≡ position_read (child_position s i))
elements_read Empty items s h e i = absurd (none-some s e)
elements_read (Owned v) items s h e i = absurd (none-some s e)
elements_read (Packed p) items s h e i = subst (λ (x : CellRef). IfSome (slice_get items i) (λ v. doc_position v ≡ position_read (child_position x i))) (kind_there kind.Array (position_in p.doc.value p.at) s e) (h i)

pub elements_are_read : FirstElementsAreRead
elements_are_read a items d at h e i = elements_read a.form items (position_in d at) h (sym (array_position a) ∙ e) i

members_read : (f : Form (Keyed Value)) (items : List (Keyed Value)) (s : CellRef) → FirstPairs f items → option_and_then (kind_position kind.Object) (form_position f) ≡ Some s
    → (i : ℕ) → IfSome (slice_get items i) (λ m. (text_position m.key ≡ Some (cell_key_position s i)) × (doc_position m.value ≡ position_read (child_position s i)))
members_read Empty items s h e i = absurd (none-some s e)
members_read (Owned v) items s h e i = absurd (none-some s e)
members_read (Packed p) items s h e i =
    subst (λ (x : CellRef). IfSome (slice_get items i) (λ m. (text_position m.key ≡ Some (cell_key_position x i)) × (doc_position m.value ≡ position_read (child_position x i)))) (kind_there kind.Object (position_in p.doc.value p.at) s e) (h i)

pub members_are_read : FirstMembersAreRead
members_are_read o items d at h e i = members_read o.form items (position_in d at) h (sym (object_position o) ∙ e) i

-- ---- as they were

none_seen : {X Y : Type 0} (f : X → Y) (xs : List X) → map f xs ≡ [] → xs ≡ []
none_seen f [] e = refl
none_seen f (x ∷ xs) e = cc

-- what has no position as an array has no elements
no_elements : (t : Tree) (x : CellRef) → cond (type_number (type_of t) == type_number kind.Array) (Some x) None ≡ None → elements t ≡ []
no_elements (list ts) x e = absurd (none-some x (sym e))
no_elements null x e = refl
no_elements (boolean b) x e = refl
no_elements (num l) x e = refl
no_elements (text s) x e = refl
no_elements (pairs ps) x e = refl

no_members : (t : Tree) (x : CellRef) → cond (type_number (type_of t) == type_number kind.Object) (Some x) None ≡ None → members t ≡ []
no_members (pairs ps) x e = absurd (none-some x (sym e))
no_members null x e = refl
no_members (boolean b) x e = refl
no_members (num l) x e = refl
no_members (text s) x e = refl
no_members (list ts) x e = refl

elements_kept : (f : Form Value) (items : List Value) → FirstList f items → map tree_of items ≡ form_list f → option_and_then (kind_position kind.Array) (form_position f) ≡ None → items ≡ owned_items f
elements_kept Empty items h same e = h
elements_kept (Owned v) items h same e = h
elements_kept (Packed p) items h same e = none_seen tree_of items (same ∙ no_elements (place_tree p) (position_in p.doc.value p.at) e)

pub elements_stay : FirstElementsStay
elements_stay a items h same e = elements_kept a.form items h same (sym (array_position a) ∙ e)

members_kept : (f : Form (Keyed Value)) (items : List (Keyed Value)) → FirstPairs f items → map pair_of items ≡ form_pairs f → option_and_then (kind_position kind.Object) (form_position f) ≡ None → items ≡ owned_items f
members_kept Empty items h same e = h
members_kept (Owned v) items h same e = h
members_kept (Packed p) items h same e = none_seen pair_of items (same ∙ no_members (place_tree p) (position_in p.doc.value p.at) e)

pub members_stay : FirstMembersStay
members_stay o items h same e = members_kept o.form items h same (sym (object_position o) ∙ e)

-- ---- the positions of containers

elements_state : (t : Tree) (x : CellRef) → 0 < length (elements t) → IsSome (cond (type_number (type_of t) == type_number kind.Array) (Some x) None)
elements_state (list ts) x h = refl
elements_state null x h = absurd (omega arith)
elements_state (boolean b) x h = absurd (omega arith)
elements_state (num l) x h = absurd (omega arith)
elements_state (text s) x h = absurd (omega arith)
elements_state (pairs ps) x h = absurd (omega arith)

members_state : (t : Tree) (x : CellRef) → 0 < length (members t) → IsSome (cond (type_number (type_of t) == type_number kind.Object) (Some x) None)
members_state (pairs ps) x h = refl
members_state null x h = absurd (omega arith)
members_state (boolean b) x h = absurd (omega arith)
members_state (num l) x h = absurd (omega arith)
members_state (text s) x h = absurd (omega arith)
members_state (list ts) x h = absurd (omega arith)

array_form_leads : (f : Form Value) → IsPacked f → 0 < length (form_list f) → IsSome (option_and_then (kind_position kind.Array) (form_position f))
array_form_leads Empty is h = absurd is
array_form_leads (Owned v) is h = absurd is
array_form_leads (Packed p) is h = elements_state (place_tree p) (position_in p.doc.value p.at) h

pub packed_array_leads : PackedArrayHasPosition
packed_array_leads a is h = subst IsSome (sym (array_position a)) (array_form_leads a.form is h)

object_form_leads : (f : Form (Keyed Value)) → IsPacked f → 0 < length (form_pairs f) → IsSome (option_and_then (kind_position kind.Object) (form_position f))
object_form_leads Empty is h = absurd is
object_form_leads (Owned v) is h = absurd is
object_form_leads (Packed p) is h = members_state (place_tree p) (position_in p.doc.value p.at) h

pub packed_object_leads : PackedObjectHasPosition
packed_object_leads o is h = subst IsSome (sym (object_position o)) (object_form_leads o.form is h)

-- what has a position is a place
leads_packed : {T : Type 0} (k : JsonType) (f : Form T) → IsSome (option_and_then (kind_position k) (form_position f)) → IsPacked f
leads_packed k Empty h = cc
leads_packed k (Owned v) h = cc
leads_packed k (Packed p) h = tt

pub array_leads_as_place : PositionedArrayIsPlace
array_leads_as_place a h = leads_packed kind.Array a.form (subst IsSome (array_position a) h)

pub object_leads_as_place : PositionedObjectIsPlace
object_leads_as_place o h = leads_packed kind.Object o.form (subst IsSome (object_position o) h)

pub owned_is_no_place : {T : Type 0} (f : Form T) → IsOwned f → IsPacked f → ⊥
owned_is_no_place Empty own place = own
owned_is_no_place (Owned v) own place = place
owned_is_no_place (Packed p) own place = own

pub places_of_elements : PlacesOfElements
places_of_elements v = array_of_form (Owned v) ∙ flat_map-map (λ (places : List (Option CellRef)). places) places_in v.items

pub places_of_members : PlacesOfMembers
places_of_members v = object_of_form (Owned v) ∙ flat_map-map (λ (places : List (Option CellRef)). places) member_places v.items
