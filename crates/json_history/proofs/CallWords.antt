-- The calls that a word spells.
use Rattle.std.proofs.Common.{◌≡◌, ◌∙◌, ◌⊎◌, inl, inr, false, ℕ, suc, ◌<◌, ◌≤◌, ◌^◌, List, [], ◌∷◌, length, Option, Some, None, Result, Ok, Err, IfErr, refl, sym, ap, arith}
use Rattle.std.specs.Prelude.{option_map, option_and_then}
use Rattle.json_grammar.specs.Tree.{Tree, null, boolean, num, text, list, pairs, Trees, no_trees, tree_and, trees_list}
use Rattle.json_grammar.specs.Sizes.{nodes, trees_nodes}
use Rattle.json_grammar.proofs.Sizes.{text_fits, nodes_some}
use Rattle.json_grammar.proofs.Values.{one_tree}
use Rattle.json_io.specs.Errors.{no_memory, bad_words}
use Rattle.json_text.specs.Ruled.{usual_rules}
use Rattle.json_io.specs.declared.error.Error.{Error}
use Rattle.json_model.specs.Edit.{Edit}
use Rattle.json_value.specs.EditTrees.{both, each_in, edit_in}
use Rattle.json_value.specs.Seen.{list_of}
use Rattle.json_command.specs.Input.{IsInput, IsValid}
use Rattle.json_data.specs.Reading.{gives}
use Rattle.json_data.specs.ReadingValues.{edit_datum, spelled, read_edit}
use Rattle.json_data.proofs.ValueData.{same_edit}
use Rattle.json_history.specs.History.{TreeCall, edit}
use Rattle.json_history.specs.Spelling.{call_in, calls_in, SpellsCalls}

none_some : {A : Type 0} {x : A} → None ≡ Some x → ⊥
none_some e = cc

-- ---- an edit

pub edit_in_read : (t : Tree) (e : Edit) → read_edit t ≡ gives (edit_datum e) → option_map edit (edit_in t) ≡ Some (edit e)
edit_in_read t e h = by (edit_in t) h
  where
    by : (o : Option Edit) → spelled edit_datum o ≡ gives (edit_datum e) → option_map edit o ≡ Some (edit e)
    by (Some f) h = let s : edit_datum f ≡ edit_datum e = cc in ap (λ x. Some (edit x)) (same_edit f e s)
    by None h = absurd (cc)

-- ---- a word

calls_in_elements : (t : Tree) (ts : List Tree) → Some ts ≡ list_of t → calls_in t ≡ each_in call_in ts
calls_in_elements t ts e = ap (option_and_then (each_in call_in)) (sym e)

pub word_spells : (word : List ℕ) (t : Tree) (ts : List Tree) (cs : List TreeCall) → IsInput usual_rules word t → Some ts ≡ list_of t → each_in call_in ts ≡ Some cs → SpellsCalls word cs
word_spells word t ts cs i e f = record { tree = t; input = i; calls = calls_in_elements t ts e ∙ f }

spells_none : (word : List ℕ) (t : Tree) → IsInput usual_rules word t → calls_in t ≡ None → (cs : List TreeCall) → ¬ (SpellsCalls word cs)
spells_none word t i e cs s = none_some (sym e ∙ ap calls_in (one_tree false t s.tree word i.text s.input.text) ∙ s.calls)

pub no_array_spells_none : (word : List ℕ) (t : Tree) → IsInput usual_rules word t → None ≡ list_of t → (cs : List TreeCall) → ¬ (SpellsCalls word cs)
no_array_spells_none word t i e = spells_none word t i (ap (option_and_then (each_in call_in)) (sym e))

pub bad_element_spells_none : (word : List ℕ) (t : Tree) (ts : List Tree) → IsInput usual_rules word t → Some ts ≡ list_of t → each_in call_in ts ≡ None → (cs : List TreeCall) → ¬ (SpellsCalls word cs)
bad_element_spells_none word t ts i e f = spells_none word t i (calls_in_elements t ts e ∙ f)

-- a word that is no valid input spells none
pub invalid_spells_none : (word : List ℕ) → ¬ (IsValid usual_rules word) → (cs : List TreeCall) → ¬ (SpellsCalls word cs)
invalid_spells_none word n cs s = n (record { tree = s.tree; input = s.input })

-- a word that could not be read as an argument spells none, or memory ran out
pub argument_fails : {A : Type 0} (r : Result A Error) (word : List ℕ) → IfErr r (λ e. (e ≡ no_memory) ⊎ ((e ≡ bad_words) × ¬ (IsValid usual_rules word))) → IfErr r (λ e. (e ≡ no_memory) ⊎ ((e ≡ bad_words) × ((cs : List TreeCall) → ¬ (SpellsCalls word cs))))
argument_fails (Ok x) word h = tt
argument_fails (Err e) word (inl lacks) = inl lacks
argument_fails (Err e) word (inr bad) = inr (bad.0, invalid_spells_none word bad.1)

-- ---- fewer calls than bytes

same_some : {A : Type 0} {x y : A} → Some x ≡ Some y → x ≡ y
same_some e = cc

each_in_length : {A : Type 0} (f : Tree → Option A) (ts : List Tree) (xs : List A) → each_in f ts ≡ Some xs → length xs ≡ length ts
each_in_length f [] xs e = ap length (sym (same_some e))
each_in_length {A} f (t ∷ ts) xs e = by (f t) (each_in f ts) xs (each_in_length f ts) e
  where
    by : (a : Option A) (o : Option (List A)) (xs : List A) → ((ys : List A) → o ≡ Some ys → length ys ≡ length ts) → both (λ x xs. x ∷ xs) a o ≡ Some xs → length xs ≡ suc (length ts)
    by (Some x) (Some ys) xs i e = ap length (sym (same_some e)) ∙ ap suc (i ys refl)
    by (Some x) None xs i e = absurd (none_some e)
    by None o xs i e = absurd (none_some e)

trees_below_nodes : (ts : Trees) → length (trees_list ts) ≤ trees_nodes ts
trees_below_nodes no_trees = omega arith
trees_below_nodes (tree_and t ts) = omega (arith, nodes_some t, trees_below_nodes ts)

calls_below_nodes : (t : Tree) (cs : List TreeCall) → calls_in t ≡ Some cs → length cs < nodes t
calls_below_nodes (list ts) cs e = omega (arith, each_in_length call_in (trees_list ts) cs e, trees_below_nodes ts)
calls_below_nodes null cs e = absurd (none_some e)
calls_below_nodes (boolean b) cs e = absurd (none_some e)
calls_below_nodes (num l) cs e = absurd (none_some e)
calls_below_nodes (text s) cs e = absurd (none_some e)
calls_below_nodes (pairs ps) cs e = absurd (none_some e)

pub spelled_calls_below_max : (word : List ℕ) (cs : List TreeCall) → SpellsCalls word cs → length cs < 2 ^ 32
spelled_calls_below_max word cs s = omega (arith, calls_below_nodes s.tree cs s.calls, (text_fits false s.tree word s.input.text).0, s.input.short)
