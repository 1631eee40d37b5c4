-- What the views of parts are of: the elements and the members of what is seen, and the values
-- where steps lead.
use Rattle.std.specs.Prelude.{ℕ, List, [], ◌∷◌, Option, None, Some, map, option_map, option_and_then, slice_get}
use Rattle.std.specs.Borrow.{Bor}
use Rattle.std.specs.List.{enumerate_from}
use Rattle.json_grammar.specs.Tree.{Tree}
use Rattle.json_model.specs.Edit.{Step, key_step, index_step}
use Rattle.json_doc.specs.Docs.{doc_tree}
use Rattle.json_doc.specs.Readings.{elements}
use Rattle.json_doc.specs.Seen.{child_place, view_doc, view_place, view_tree}
use Rattle.json_doc.specs.declared.doc.Doc.{Doc}
use Rattle.json_value.specs.Denotes.{text_bytes}
use Rattle.json_doc_print.specs.Readings.{members}
use Rattle.json_value.specs.Said.{place_tree}
use Rattle.json_value.specs.Seen.{first_of, list_of, object_pairs}
use Rattle.json_value.specs.ViewTargets.{ViewTarget, whole_value, place_of, nowhere, doc_held, view_target}
use Rattle.json_value.specs.declared.array_view.ArrayView.{ArrayView}
use Rattle.json_value.specs.declared.array_view.ArrayForm.{ArrayForm}
use Rattle.json_value.specs.declared.array_view.ArrayForm.TheVariants as array
use Rattle.json_value.specs.declared.container.Container.{Container}
use Rattle.json_value.specs.declared.container.Form.{Form}
use Rattle.json_value.specs.declared.container.Form.TheVariants.{Empty, Owned, Packed}
use Rattle.json_value.specs.declared.object_view.ObjectView.{ObjectView}
use Rattle.json_value.specs.declared.object_view.ObjectForm.{ObjectForm}
use Rattle.json_value.specs.declared.object_view.ObjectForm.TheVariants as object
use Rattle.json_value.specs.declared.pair.Keyed.{Keyed}
use Rattle.json_value.specs.declared.value.Value.{Value, out-Value}
use Rattle.json_value.specs.declared.value.Value.TheOpen.{Value-F}
use Rattle.json_value.specs.declared.view.View.{View}

-- the child i of the container at a place: it is a place of the same document, which a value holds
-- if one holds the container's
abbrev pub child_target : Doc → Option Doc → ℕ → ℕ → ViewTarget
child_target d held at i = place_of d held (child_place d at i)

-- so each of the elements
abbrev pub elements_at : Doc → Option Doc → ℕ → List Tree → List ViewTarget
elements_at d held at ts = map (λ q. child_target d held at q.0) (enumerate_from 0 ts)

-- and each of the members, with its key
abbrev pub members_at : Doc → Option Doc → ℕ → List (List ℕ × Tree) → List (List ℕ × ViewTarget)
members_at d held at ps = map (λ q. (q.1.0, child_target d held at q.0)) (enumerate_from 0 ps)

abbrev pub form_elements : Form Value → List ViewTarget
form_elements Empty = []
form_elements (Owned v) = map whole_value v.items
form_elements (Packed p) = elements_at p.doc.value (Some p.doc.value) p.at (elements (place_tree p))

-- the elements of an array: of an owned list each value
abbrev pub array_targets : Container Value → List ViewTarget
array_targets a = form_elements a.form

-- a member of an owned list: its key, and its value
abbrev pub pair_target : Keyed Value → List ℕ × ViewTarget
pair_target m = (text_bytes m.key, whole_value m.value)

abbrev pub form_members : Form (Keyed Value) → List (List ℕ × ViewTarget)
form_members Empty = []
form_members (Owned v) = map pair_target v.items
form_members (Packed p) = members_at p.doc.value (Some p.doc.value) p.at (members (place_tree p))

-- so the members of an object
abbrev pub object_targets : Container (Keyed Value) → List (List ℕ × ViewTarget)
object_targets o = form_members o.form

abbrev pub level_elements : Value-F Value → Option (List ViewTarget)
level_elements (Value-F.Array a) = Some (array_targets a)
level_elements _ = None

abbrev pub level_members : Value-F Value → Option (List (List ℕ × ViewTarget))
level_members (Value-F.Object o) = Some (object_targets o)
level_members _ = None

-- the elements of the array, of no other kind
abbrev pub target_elements : ViewTarget → Option (List ViewTarget)
target_elements (whole_value v) = level_elements (out-Value v)
target_elements (place_of d held at) = option_map (elements_at d held at) (list_of (doc_tree d at))
target_elements nowhere = None

-- the members of the object, of no other kind
abbrev pub target_members : ViewTarget → Option (List (List ℕ × ViewTarget))
target_members (whole_value v) = level_members (out-Value v)
target_members (place_of d held at) = option_map (members_at d held at) (object_pairs (doc_tree d at))
target_members nowhere = None

-- the value of the first member of a key, or the element of an index, counted from 0
abbrev pub target_after : Step → ViewTarget → Option ViewTarget
target_after (key_step k) s = option_and_then (λ ps. option_map (λ p. p.1) (first_of k ps)) (target_members s)
target_after (index_step i) s = option_and_then (λ ss. slice_get ss i) (target_elements s)

-- what is seen where the steps lead
abbrev pub target_along : List Step → ViewTarget → Option ViewTarget
target_along [] s = Some s
target_along (x ∷ p) s = elim (target_after x s) [ None ↦ None | Some u ↦ target_along p u ]

-- that, or null, which has no position
abbrev pub or_nowhere : Option ViewTarget → ViewTarget
or_nowhere None = nowhere
or_nowhere (Some s) = s

abbrev pub array_form_targets : ArrayForm → List ViewTarget
array_form_targets (array.Packed p) = elements_at (view_doc p.view) (doc_held p.holder) (view_place p.view) (elements (view_tree p.view))
array_form_targets (array.Whole vs) = map whole_value vs.now

-- what the views of the elements are of
abbrev pub elements_targets : ArrayView → List ViewTarget
elements_targets v = array_form_targets v.form

abbrev pub object_form_targets : ObjectForm → List (List ℕ × ViewTarget)
object_form_targets (object.Packed p) = members_at (view_doc p.view) (doc_held p.holder) (view_place p.view) (members (view_tree p.view))
object_form_targets (object.Whole ps) = map pair_target ps.now

-- what the views of the members' values are of, each with its key
abbrev pub members_targets : ObjectView → List (List ℕ × ViewTarget)
members_targets v = object_form_targets v.form

-- a member, as it is given
abbrev pub member_target : Bor (List ℕ) × View → List ℕ × ViewTarget
member_target p = (p.0.now, view_target p.1)
