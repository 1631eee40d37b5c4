-- Values that are read at places of documents.
use Rattle.std.proofs.Common.{◌≡◌, ℕ, ◌+◌, ◌-◌, List, [], ◌∷◌, Option, Some, None, length, refl, sym, ap, ◌∙◌, arith, ℤ}
use Rattle.std.specs.Prelude.{slice_get}
use Rattle.json_grammar.specs.Tree.{Tree, text, list, pairs, no_trees, tree_and, no_pairs, pair_and, list_trees, list_pairs, num}
use Rattle.json_doc.specs.Docs.{doc_tree}
use Rattle.json_doc.specs.Seen.{view_doc, view_place, view_tree}
use Rattle.json_doc.specs.Readings.{type_of, elements, children}
use Rattle.json_doc.specs.declared.doc.Doc.{Doc}
use Rattle.json_doc.specs.declared.view.DocView.{DocView}
use Rattle.json_doc.specs.declared.json_type.JsonType.TheVariants as kind
use Rattle.json_doc_print.specs.Readings.{members, text_said}
use Rattle.json_value.specs.Denotes.{tree_of, pair_of, text_bytes}
use Rattle.json_value.specs.Said.{place_tree}
use Rattle.json_value.specs.Positions.{CellRef, position_in, doc_position, text_position, kept_position, read_position, member_positions, read_member_positions, kept_number}
use Rattle.json_value.specs.declared.place.DocumentPosition.{DocumentPosition}
use Rattle.json_value.specs.declared.pair.Keyed.{Keyed}
use Rattle.json_value.specs.declared.container.Form.TheVariants.{Empty, Packed}
use Rattle.json_value.specs.declared.value.Value.{Value, Array, Object}
use Rattle.json_doc_print.proofs.Trees.{array_back, object_back, no_array, no_object}
use Rattle.json_value.proofs.ValueLevels.{array_tree, object_tree}
use Rattle.json_number.specs.Integers.{integer_in}

-- the tree at a place of the same document
pub same_place : (p : DocumentPosition) (d : Doc) (at : ℕ) → p.doc.value ≡ d → p.at ≡ at → place_tree p ≡ doc_tree d at
same_place p d at e f = ap (λ (x : Doc). doc_tree x p.at) e ∙ ap (doc_tree d) f

pub array_read : (p : DocumentPosition) (d : Doc) (at : ℕ) → p.doc.value ≡ d → p.at ≡ at → type_of (doc_tree d at) ≡ kind.Array → tree_of (Array (record { form = Packed p })) ≡ doc_tree d at
array_read p d at e f h = array_tree (record { form = Packed p }) ∙ ap (λ (t : Tree). list (list_trees (elements t))) (same_place p d at e f) ∙ array_back (doc_tree d at) h

pub object_read : (p : DocumentPosition) (d : Doc) (at : ℕ) → p.doc.value ≡ d → p.at ≡ at → type_of (doc_tree d at) ≡ kind.Object → tree_of (Object (record { form = Packed p })) ≡ doc_tree d at
object_read p d at e f h = object_tree (record { form = Packed p }) ∙ ap (λ (t : Tree). pairs (list_pairs (members t))) (same_place p d at e f) ∙ object_back (doc_tree d at) h

pub empty_array_read : (t : Tree) → type_of t ≡ kind.Array → length (children t) ≡ 0 → tree_of (Array (record { form = Empty })) ≡ t
empty_array_read t h e = array_tree (record { form = Empty }) ∙ no_array t h e

pub empty_object_read : (t : Tree) → type_of t ≡ kind.Object → length (children t) ≡ 0 → tree_of (Object (record { form = Empty })) ≡ t
empty_object_read t h e = object_tree (record { form = Empty }) ∙ no_object t h e

-- the place of a container that has members is kept
pub array_kept : (t : Tree) (s : CellRef) → type_of t ≡ kind.Array → (length (children t) ≡ 0 → ⊥) → kept_position t s ≡ None → ⊥
array_kept (list no_trees) s k some none = some refl
array_kept (list (tree_and t ts)) s k some none = cc
array_kept _ s k some none = absurd (cc)

pub object_kept : (t : Tree) (s : CellRef) → type_of t ≡ kind.Object → (length (children t) ≡ 0 → ⊥) → kept_position t s ≡ None → ⊥
object_kept (pairs no_pairs) s k some none = some refl
object_kept (pairs (pair_and k' t ps)) s k some none = cc
object_kept _ s k some none = absurd (cc)

-- the member that is read from the place of a value, and of the key before it
pub member_read : (d : Doc) (key value : DocView) (m : Keyed Value) (k : List ℕ) → view_doc key ≡ d → view_doc value ≡ d → Some (view_tree key) ≡ Some (text k)
    → text_bytes m.key ≡ text_said (doc_tree d (view_place key)) → tree_of m.value ≡ doc_tree d (view_place value) → pair_of m ≡ (k, view_tree value)
member_read d key value m k e f is key_read read =
    let said : text_bytes m.key ≡ k = key_read ∙ ap (λ (x : Doc). text_said (doc_tree x (view_place key))) (sym e) ∙ ap (λ (o : Option Tree). elim o [ Some t ↦ text_said t | None ↦ [] ]) is in
    let there : tree_of m.value ≡ view_tree value = read ∙ ap (λ (x : Doc). doc_tree x (view_place value)) (sym f) in
    ap (λ (s : List ℕ). (s, tree_of m.value)) said ∙ ap (λ (t : Tree). (k, t)) there

pub member_leads : (d : Doc) (at key_at : ℕ) (m : Keyed Value) (rest places : List ℕ) → places ≡ at ∷ rest → slice_get places 0 ≡ Some (key_at + 1) → text_position m.key ≡ Some (position_in d key_at) → doc_position m.value ≡ read_position d at → member_positions m ≡ read_member_positions d at
member_leads d at key_at m rest places e f g h =
    let first : Some at ≡ Some (key_at + 1) = sym (ap (λ (ks : List ℕ). slice_get ks 0) e) ∙ f in
    let next : at ≡ key_at + 1 = cc in
    let before : key_at ≡ at - 1 = omega arith in
    ap (λ (s : Option CellRef). (s, doc_position m.value)) (g ∙ ap (λ (n : ℕ). Some (position_in d n)) before) ∙ ap (λ (s : Option CellRef). (Some (position_in d (at - 1)), s)) h

-- which numbers are kept as places
pub integer_kept : (l : List ℕ) (n : ℤ) (s : CellRef) → integer_in l ≡ Some n → kept_position (num l) s ≡ None
integer_kept l n s e = ap (λ (o : Option ℤ). kept_number o s) e
