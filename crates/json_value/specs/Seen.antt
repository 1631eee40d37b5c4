-- The trees that views show, and what can be read of a tree at once.
use Rattle.std.specs.Prelude.{ℕ, List, [], ◌∷◌, Option, None, Some, cond, map, bytes_eq}
use Rattle.std.specs.Borrow.{Bor}
use Rattle.json_grammar.specs.Tree.{Tree, list, pairs, trees_list, pairs_list}
use Rattle.json_doc.specs.Seen.{view_tree}
use Rattle.json_doc.specs.Readings.{elements}
use Rattle.json_value.specs.Denotes.{tree_of, pair_of}
use Rattle.json_doc_print.specs.Readings.{members}
use Rattle.json_value.specs.ViewTargets.{target_tree, form_target, view_target}
use Rattle.json_value.specs.declared.view.View.{View}
use Rattle.json_value.specs.declared.view.ViewForm.{ViewForm}
use Rattle.json_value.specs.declared.array_view.ArrayView.{ArrayView}
use Rattle.json_value.specs.declared.array_view.ArrayForm.{ArrayForm}
use Rattle.json_value.specs.declared.array_view.ArrayForm.TheVariants as array
use Rattle.json_value.specs.declared.object_view.ObjectView.{ObjectView}
use Rattle.json_value.specs.declared.object_view.ObjectForm.{ObjectForm}
use Rattle.json_value.specs.declared.object_view.ObjectForm.TheVariants as object

-- the tree that is seen
abbrev pub form_seen : ViewForm → Tree
form_seen f = target_tree (form_target f)

abbrev pub seen : View → Tree
seen v = target_tree (view_target v)

-- a member, as it is given
abbrev pub member_seen : Bor (List ℕ) × View → List ℕ × Tree
member_seen p = (p.0.now, seen p.1)

-- the elements that are seen
abbrev pub array_form_seen : ArrayForm → List Tree
array_form_seen (array.Packed p) = elements (view_tree p.view)
array_form_seen (array.Whole vs) = map tree_of vs.now

abbrev pub elements_seen : ArrayView → List Tree
elements_seen v = array_form_seen v.form

-- the members that are seen
abbrev pub object_form_seen : ObjectForm → List (List ℕ × Tree)
object_form_seen (object.Packed p) = members (view_tree p.view)
object_form_seen (object.Whole ps) = map pair_of ps.now

abbrev pub members_seen : ObjectView → List (List ℕ × Tree)
members_seen v = object_form_seen v.form

-- the elements of the array, of no other kind
abbrev pub list_of : Tree → Option (List Tree)
list_of (list ts) = Some (trees_list ts)
list_of _ = None

-- the members of the object, of no other kind
abbrev pub object_pairs : Tree → Option (List (List ℕ × Tree))
object_pairs (pairs ps) = Some (pairs_list ps)
object_pairs _ = None

-- the first member of the key
abbrev pub first_of : {X : Type 0} → List ℕ → List (List ℕ × X) → Option (List ℕ × X)
first_of k [] = None
first_of k (p ∷ ps) = cond (bytes_eq p.0 k) (Some p) (first_of k ps)
