-- The tree of a value, from what the value was found to be.
use Rattle.std.proofs.Common.{◌≡◌, Bool as TestBool, ℕ, List, Some, map, sym, ap, ◌∙◌}
use Rattle.std.specs.Prelude.{slice_get}
use Rattle.json_grammar.specs.Tree.{Tree, null, boolean, num, text, list, list_trees, pairs, list_pairs}
use Rattle.json_number.specs.Numbers.{text_of_number}
use Rattle.json_number.specs.declared.number.Number.{Number as NumberType}
use Rattle.json_value.specs.Denotes.{tree_of, pair_of, form_list, form_pairs, text_bytes, literal_bytes}
use Rattle.json_value.specs.declared.value.Value.{Value, Null, Bool, Number, Raw, Text, Array, Object}
use Rattle.json_value.specs.declared.container.Container.{Container}
use Rattle.json_value.specs.declared.container.Form.{Form}
use Rattle.json_value.specs.declared.literal.Literal.{Literal}
use Rattle.json_value.specs.declared.pair.Keyed.{Keyed}
use Rattle.json_value.specs.declared.text.Text.{Text as TextType}
use Rattle.json_value.proofs.ValueLevels.{null_tree, bool_tree, number_tree, literal_tree, text_tree, array_tree, object_tree}
use Rattle.json_doc_print.proofs.Items.{map_there}

pub null_in : (v : Value) → v ≡ Null → tree_of v ≡ null
null_in v e = ap tree_of e ∙ null_tree

pub bool_in : (v : Value) (b : TestBool) → v ≡ Bool b → tree_of v ≡ boolean b
bool_in v b e = ap tree_of e ∙ bool_tree b

pub number_in : (v : Value) (n : NumberType) → v ≡ Number n → tree_of v ≡ num (text_of_number n)
number_in v n e = ap tree_of e ∙ number_tree n

pub literal_in : (v : Value) (l : Literal) → v ≡ Raw l → tree_of v ≡ num (literal_bytes l)
literal_in v l e = ap tree_of e ∙ literal_tree l

pub text_in : (v : Value) (t : TextType) → v ≡ Text t → tree_of v ≡ text (text_bytes t)
text_in v t e = ap tree_of e ∙ text_tree t

pub array_in : (v : Value) (a : Container Value) → v ≡ Array a → tree_of v ≡ list (list_trees (form_list a.form))
array_in v a e = ap tree_of e ∙ array_tree a

pub object_in : (v : Value) (o : Container (Keyed Value)) → v ≡ Object o → tree_of v ≡ pairs (list_pairs (form_pairs o.form))
object_in v o e = ap tree_of e ∙ object_tree o

-- the array of a value whose form is known
pub array_there : (v : Value) (a : Container Value) (f : Form Value) → v ≡ Array a → a.form ≡ f → tree_of v ≡ list (list_trees (form_list f))
array_there v a f e h = array_in v a e ∙ ap (λ g. list (list_trees (form_list g))) h

pub object_there : (v : Value) (o : Container (Keyed Value)) (f : Form (Keyed Value)) → v ≡ Object o → o.form ≡ f → tree_of v ≡ pairs (list_pairs (form_pairs f))
object_there v o f e h = object_in v o e ∙ ap (λ g. pairs (list_pairs (form_pairs g))) h

-- the key and the tree of the member at an index
pub key_of_item : (ps : List (List ℕ × Tree)) (i : ℕ) (p : Keyed Value) (k : List ℕ) → slice_get ps i ≡ Some (pair_of p) → k ≡ text_bytes p.key → slice_get (map (λ (q : List ℕ × Tree). q.0) ps) i ≡ Some k
key_of_item ps i p k e h = map_there (λ (q : List ℕ × Tree). q.0) ps i (pair_of p) e ∙ ap (λ z. Some z) (sym h)

pub tree_of_item : (ps : List (List ℕ × Tree)) (i : ℕ) (p : Keyed Value) → slice_get ps i ≡ Some (pair_of p) → slice_get (map (λ (q : List ℕ × Tree). q.1) ps) i ≡ Some (tree_of p.value)
tree_of_item ps i p e = map_there (λ (q : List ℕ × Tree). q.1) ps i (pair_of p) e
