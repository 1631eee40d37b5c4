-- The tree of each value is proper.
use Rattle.std.proofs.Common.{List, [], ◌∷◌, map, refl, sym, ap, subst, ◌∙◌}
use Rattle.json_grammar.specs.Tree.{Tree, list_trees, list_pairs, list, pairs}
use Rattle.json_grammar.specs.Proper.{IsProper, AreProper, ArePairsProper}
use Rattle.json_number.proofs.Forms.{reads}
use Rattle.json_doc.specs.Readings.{elements}
use Rattle.json_doc.proofs.Properness.{doc_proper}
use Rattle.json_value.specs.Denotes.{tree_of, pair_of, list_in, pairs_in, literal_bytes}
use Rattle.json_doc_print.specs.Readings.{members}
use Rattle.json_value.specs.Rows.{keyed_so}
use Rattle.json_value.specs.Said.{place_tree}
use Rattle.json_value.specs.declared.container.Form.{Form}
use Rattle.json_value.specs.declared.container.Form.TheVariants.{Empty, Owned, Packed}
use Rattle.json_value.specs.declared.pair.Keyed.{Keyed}
use Rattle.json_value.specs.declared.value.Value.{Value, roll-Value}
use Rattle.json_value.specs.declared.value.Value.TheFolds.{ind-Value, map-Value}
use Rattle.json_value.specs.declared.value.Value.TheOpen.{Value-F}
use Rattle.json_value.specs.declared.value.Value.TheVariants.{rolls-Null, rolls-Bool, rolls-Number, rolls-Raw, rolls-Text, rolls-Array, rolls-Object}
use Rattle.json_value.proofs.StoredTexts.{literal_number, text_utf8}
use Rattle.json_doc.proofs.Trees.{list_back}
use Rattle.json_doc_print.proofs.Trees.{pairs_back}
use Rattle.json_value.proofs.ValueLevels.{null_tree, bool_tree, number_tree, literal_tree, text_tree, array_tree, object_tree}

abbrev Proper : Value → Type 0
Proper v = IsProper (tree_of v)

-- a value and that its tree is proper
abbrev Shown : Type 0
Shown = (v : Value) × Proper v

-- the parts of one level are proper
Held : Value-F Value → Type 0
Held (Value-F.Array a) = AreProper (list_trees (list_in a))
Held (Value-F.Object o) = ArePairsProper (list_pairs (pairs_in o))
Held _ = Unit {0}

-- so is the level
level_proper : (x : Value-F Value) → Held x → Proper (roll-Value x)
unfolding Held
level_proper Value-F.Null h = subst IsProper (sym (ap tree_of rolls-Null ∙ null_tree)) tt
level_proper (Value-F.Bool b) h = subst IsProper (sym (ap tree_of (rolls-Bool b) ∙ bool_tree b)) tt
level_proper (Value-F.Number n) h = subst IsProper (sym (ap tree_of (rolls-Number n) ∙ number_tree n)) (reads n).0
level_proper (Value-F.Raw l) h = subst IsProper (sym (ap tree_of (rolls-Raw l) ∙ literal_tree l)) (literal_number l (literal_bytes l) refl)
level_proper (Value-F.Text t) h = subst IsProper (sym (ap tree_of (rolls-Text t) ∙ text_tree t)) (text_utf8 t)
level_proper (Value-F.Array a) h = subst IsProper (sym (ap tree_of (rolls-Array a) ∙ array_tree a)) h
level_proper (Value-F.Object o) h = subst IsProper (sym (ap tree_of (rolls-Object o) ∙ object_tree o)) h

each_proper : (vs : List Shown) → AreProper (list_trees (map tree_of (map (λ e. e.0) vs)))
each_proper [] = tt
each_proper (e ∷ vs) = (e.1, each_proper vs)

each_pair : (ps : List (Keyed Shown)) → ArePairsProper (list_pairs (map pair_of (map (λ p. keyed_so p.key p.value.0) ps)))
each_pair [] = tt
each_pair (p ∷ ps) = (text_utf8 p.key, p.value.1, each_pair ps)

-- the trees at a place
elements_proper : (t : Tree) → IsProper t → AreProper (list_trees (elements t))
elements_proper (list ts) h = subst AreProper (sym (list_back ts)) h
elements_proper _ h = tt

members_proper : (t : Tree) → IsProper t → ArePairsProper (list_pairs (members t))
members_proper (pairs ps) h = subst ArePairsProper (sym (pairs_back ps)) h
members_proper _ h = tt

array_held : (f : Form Shown) → Held (map-Value Shown Value (λ e. e.0) (Value-F.Array (record { form = f })))
unfolding Held
array_held Empty = tt
array_held (Owned v) = each_proper v.items
array_held (Packed p) = elements_proper (place_tree p) (doc_proper p.doc.value p.at p.inside)

object_held : (f : Form (Keyed Shown)) → Held (map-Value Shown Value (λ e. e.0) (Value-F.Object (record { form = f })))
unfolding Held
object_held Empty = tt
object_held (Owned v) = each_pair v.items
object_held (Packed p) = members_proper (place_tree p) (doc_proper p.doc.value p.at p.inside)

held : (y : Value-F Shown) → Held (map-Value Shown Value (λ e. e.0) y)
unfolding Held
held Value-F.Null = tt
held (Value-F.Bool b) = tt
held (Value-F.Number n) = tt
held (Value-F.Raw l) = tt
held (Value-F.Text t) = tt
held (Value-F.Array a) = array_held a.form
held (Value-F.Object o) = object_held o.form

pub value_proper : (v : Value) → IsProper (tree_of v)
value_proper = ind-Value Proper (λ x y is. level_proper x (subst Held is (held y)))
