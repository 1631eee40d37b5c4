-- Laws of the words: they ask for one command alone, and for fewer edits than a word has bytes.
use Rattle.std.proofs.Common.{◌≡◌, ℕ, suc, ◌^◌, ◌<◌, ◌≤◌, List, [], ◌∷◌, length, Bool, true, false, cond, Option, Some, None, option_to_list, filter, refl, sym, subst, ap, ◌∙◌, arith}
use Rattle.json_grammar.specs.Tree.{Tree, null, boolean, num, text, list, pairs, Trees, no_trees, tree_and, trees_list}
use Rattle.json_grammar.specs.Sizes.{nodes, trees_nodes}
use Rattle.json_grammar.proofs.Values.{one_tree}
use Rattle.json_grammar.proofs.Sizes.{text_fits, nodes_some}
use Rattle.json_model.specs.Edit.{Edit}
use Rattle.json_value.specs.EditTrees.{both, each_in, edit_in, edits_in}
use Rattle.reshape.specs.Words.{SpellsEdits, AsksEdits}
use Rattle.reshape.specs.Options.{is_edits_word, depth_or_usual, Command, Asks}

same_some : {A : Type 0} {x y : A} → Some x ≡ Some y → x ≡ y
same_some e = cc

none_some : {A : Type 0} {x : A} → None ≡ Some x → ⊥
none_some e = cc

-- ---- one command

one_spelled : (w : List ℕ) (es es' : List Edit) → SpellsEdits w es → SpellsEdits w es' → es ≡ es'
one_spelled w es es' h h' =
    let e : h.tree ≡ h'.tree = one_tree false h.tree h'.tree w h.input.text h'.input.text in same_some (sym h.edits ∙ ap edits_in e ∙ h'.edits)

one_list : (words : List (List ℕ)) (es es' : List Edit) → AsksEdits words es → AsksEdits words es' → es ≡ es'
one_list [] es es' h h' = h ∙ sym h'
one_list (w ∷ []) es es' h h' = one_spelled w es es' h h'
one_list (w ∷ v ∷ ws) es es' h h' = absurd h

same_listed : {A : Type 0} (o o' : Option A) → option_to_list o ≡ option_to_list o' → o ≡ o'
same_listed None None e = refl
same_listed None (Some x) e = cc
same_listed (Some x) None e = cc
same_listed (Some x) (Some y) e = cc

same_counted : (b b' : Bool) → ◌≡◌ {A = ℕ} (cond b 1 0) (cond b' 1 0) → b ≡ b'
same_counted true true e = refl
same_counted true false e = absurd (omega arith)
same_counted false true e = absurd (omega arith)
same_counted false false e = refl

abbrev made : List Edit → Option (List ℕ) → Bool → ℕ → Bool → Command
made es i s n u = record { es = es; layout = record { indent = i; sorts = s }; rules = record { limit = n; unique = u } }

same_made : (es es' : List Edit) (i i' : Option (List ℕ)) (s s' : Bool) (n n' : ℕ) (u u' : Bool) → es ≡ es' → i ≡ i' → s ≡ s' → n ≡ n' → u ≡ u' → made es i s n u ≡ made es' i' s' n' u'
same_made es es' i i' s s' n n' u u' e f g m v = rw (e, f, g, m, v) refl

pub one_asked : (words : List (List ℕ)) (c d : Command) → Asks words c → Asks words d → c ≡ d
one_asked words c d h k =
    same_made c.es d.es c.layout.indent d.layout.indent c.layout.sorts d.layout.sorts c.rules.limit d.rules.limit c.rules.unique d.rules.unique (one_list (filter is_edits_word words) c.es d.es h.edits k.edits)
    (same_listed c.layout.indent d.layout.indent (sym h.indent ∙ k.indent)) (same_counted c.layout.sorts d.layout.sorts (sym h.sorting ∙ k.sorting))
    (h.limit ∙ ap depth_or_usual (same_listed h.depth k.depth (sym h.depth_is ∙ k.depth_is)) ∙ sym k.limit) (same_counted c.rules.unique d.rules.unique (sym h.unique ∙ k.unique))

-- ---- what is made of two, or of one, where there is something

-- both were there
record IsBoth {A B C : Type 0} (f : A → B → C) (a : Option A) (b : Option B) (c : C) : Type 0 where
  left : A
  right : B
  left_is : a ≡ Some left
  right_is : b ≡ Some right
  made : c ≡ f left right

both_are : {A B C : Type 0} (f : A → B → C) (a : Option A) (b : Option B) (c : C) → both f a b ≡ Some c → IsBoth f a b c
both_are f (Some x) (Some y) c e = record { left = x; right = y; left_is = refl; right_is = refl; made = sym (same_some e) }
both_are f (Some x) None c e = absurd (none_some e)
both_are f None b c e = absurd (none_some e)

-- ---- few edits

each_length : {A : Type 0} (f : Tree → Option A) (ts : List Tree) (xs : List A) → each_in f ts ≡ Some xs → length xs ≡ length ts
each_length f [] xs e = ap length (sym (same_some e))
each_length f (t ∷ ts) xs e =
    let b = both_are (λ x xs. x ∷ xs) (f t) (each_in f ts) xs e in ap length b.made ∙ ap suc (each_length f ts b.right b.right_is)

few_trees : (ts : Trees) → length (trees_list ts) ≤ trees_nodes ts
few_trees no_trees = omega arith
few_trees (tree_and t ts) = omega (arith, nodes_some t, few_trees ts)

few_edits : (t : Tree) (es : List Edit) → edits_in t ≡ Some es → length es < nodes t
few_edits (list ts) es e = omega (arith, each_length edit_in (trees_list ts) es e, few_trees ts)
few_edits null es e = absurd (none_some e)
few_edits (boolean b) es e = absurd (none_some e)
few_edits (num l) es e = absurd (none_some e)
few_edits (text s) es e = absurd (none_some e)
few_edits (pairs ps) es e = absurd (none_some e)

list_few : (words : List (List ℕ)) (es : List Edit) → AsksEdits words es → length es < 2 ^ 32
list_few [] es h = subst (λ es. length es < 2 ^ 32) (sym h) (omega arith)
list_few (w ∷ []) es h = omega (arith, few_edits h.tree es h.edits, (text_fits false h.tree w h.input.text).0, h.input.short)
list_few (w ∷ v ∷ ws) es h = absurd h

pub asked_few : (words : List (List ℕ)) (c : Command) → Asks words c → length c.es < 2 ^ 32
asked_few words c h = list_few (filter is_edits_word words) c.es h.edits
