-- What a place says of the value there.
use Rattle.std.proofs.Common.{◌≡◌, sym, ap, ◌∙◌}
use Rattle.json_grammar.specs.Tree.{Tree, list, pairs, list_trees, list_pairs}
use Rattle.json_doc.specs.Readings.{type_of}
use Rattle.json_doc.specs.declared.json_type.JsonType.TheVariants as kind
use Rattle.json_value.specs.Denotes.{tree_of, form_list, form_pairs}
use Rattle.json_value.specs.Said.{place_tree}
use Rattle.json_value.specs.declared.place.DocumentPosition.{DocumentPosition}
use Rattle.json_value.specs.declared.container.Container.{Container}
use Rattle.json_value.specs.declared.container.Form.{Form}
use Rattle.json_value.specs.declared.container.Form.TheVariants.{Packed}
use Rattle.json_value.specs.declared.pair.Keyed.{Keyed}
use Rattle.json_value.specs.declared.value.Value.{Value, Array, Object}
use Rattle.json_doc_print.proofs.Trees.{array_back, object_back}
use Rattle.json_value.proofs.ValueLevels.{array_tree, object_tree}

-- an array that is a place of one
pub array_leads : (v : Value) (a : Container Value) (p : DocumentPosition) → v ≡ Array a → a.form ≡ Packed p → (t : Tree) → (t ≡ place_tree p) × (type_of (place_tree p) ≡ kind.Array) → t ≡ tree_of v
array_leads v a p is packed t h = h.0 ∙ sym (ap tree_of is ∙ array_tree a ∙ ap (λ (f : Form Value). list (list_trees (form_list f))) packed ∙ array_back (place_tree p) h.1)

-- so an object
pub object_leads : (v : Value) (o : Container (Keyed Value)) (p : DocumentPosition) → v ≡ Object o → o.form ≡ Packed p → (t : Tree) → (t ≡ place_tree p) × (type_of (place_tree p) ≡ kind.Object) → t ≡ tree_of v
object_leads v o p is packed t h = h.0 ∙ sym (ap tree_of is ∙ object_tree o ∙ ap (λ (f : Form (Keyed Value)). pairs (list_pairs (form_pairs f))) packed ∙ object_back (place_tree p) h.1)
