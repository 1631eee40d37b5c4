-- Arrays and objects read of a tree, and trees that are none.
use Rattle.std.proofs.Common.{◌≡◌, Some, None, Ok, Err, refl, sym, ap, ◌∙◌}
use Rattle.json_grammar.specs.Tree.{Tree, null, boolean, num, text, list, pairs, Trees, Pairs}
use Rattle.json_model.specs.Edit.{Changed, EditRefusal, type_unmatched, on_list, on_pairs}
use Rattle.json_value.specs.Denotes.{tree_of, list_in, pairs_in}
use Rattle.json_value.specs.Seen.{list_of, object_pairs}
use Rattle.json_value.specs.declared.container.Container.{Container}
use Rattle.json_value.specs.declared.pair.Keyed.{Keyed}
use Rattle.json_value.specs.declared.value.Value.{Value, Array, Object}
use Rattle.json_doc_print.proofs.Trees.{list_again, pairs_again}
use Rattle.json_value.proofs.ValueLevels.{array_tree, object_tree}

pub list_read : (v : Value) (a b : Container Value) → v ≡ Array a → list_in b ≡ list_in a → list_of (tree_of v) ≡ Some (list_in b)
list_read v a b is same = ap (λ (w : Value). list_of (tree_of w)) is ∙ ap list_of (array_tree a) ∙ ap Some (list_again (list_in a) ∙ sym same)

pub pairs_read : (v : Value) (a b : Container (Keyed Value)) → v ≡ Object a → pairs_in b ≡ pairs_in a → object_pairs (tree_of v) ≡ Some (pairs_in b)
pairs_read v a b is same = ap (λ (w : Value). object_pairs (tree_of w)) is ∙ ap object_pairs (object_tree a) ∙ ap Some (pairs_again (pairs_in a) ∙ sym same)

no_ok : {A : Type 0} (t : A) (r : EditRefusal) → ◌≡◌ {A = Changed A} (Ok t) (Err r) → ⊥
no_ok t r e = cc

pub list_none : (t : Tree) → ((f : Trees → Changed Trees) → on_list f t ≡ Err type_unmatched) → list_of t ≡ None
list_none (list ts) h = absurd (no_ok (list ts) type_unmatched (h (λ us. Ok us)))
list_none null h = refl
list_none (boolean b) h = refl
list_none (num l) h = refl
list_none (text s) h = refl
list_none (pairs ps) h = refl

pub pairs_none : (t : Tree) → ((f : Pairs → Changed Pairs) → on_pairs f t ≡ Err type_unmatched) → object_pairs t ≡ None
pairs_none (pairs ps) h = absurd (no_ok (pairs ps) type_unmatched (h (λ qs. Ok qs)))
pairs_none null h = refl
pairs_none (boolean b) h = refl
pairs_none (num l) h = refl
pairs_none (text s) h = refl
pairs_none (list ts) h = refl
