-- The value at a path, by this crate's definition and by json_value's.
use Rattle.std.proofs.Common.{◌≡◌, ℕ, List, [], ◌∷◌, Bool, true, false, cond, Option, Some, None, Ok, Err, refl, ap, ◌∙◌, bytes_eq}
use Rattle.std.specs.Prelude.{ok_or, option_map, slice_get}
use Rattle.std.specs.Result.{result_ok}
use Rattle.json_grammar.specs.Tree.{Tree, null, boolean, num, text, list, pairs, trees_list, Pairs, no_pairs, pair_and, pairs_list}
use Rattle.json_model.specs.Edit.{Step, key_step, index_step, Changed, EditRefusal, not_found, and_then}
use Rattle.json_model.specs.Same.{first_value}
use Rattle.json_value.specs.Seen.{first_of}
use Rattle.json_value.specs.Steps.{child, tree_at}
use Rattle.json_patch.specs.ValuesAt.{value_at_step, value_at_path}

ok_or-result_ok : (o : Option Tree) (r : EditRefusal) → result_ok (ok_or o r) ≡ o
ok_or-result_ok None r = refl
ok_or-result_ok (Some t) r = refl

pub first_value-first_of : (k : List ℕ) (ps : Pairs) → first_value k ps ≡ option_map (λ (q : List ℕ × Tree). q.1) (first_of k (pairs_list ps))
first_value-first_of k no_pairs = refl
first_value-first_of k (pair_and m t ps) = by (bytes_eq m k) (first_value-first_of k ps)
  where
    by : (b : Bool) → first_value k ps ≡ option_map (λ (q : List ℕ × Tree). q.1) (first_of k (pairs_list ps))
        → cond b (Some t) (first_value k ps) ≡ option_map (λ (q : List ℕ × Tree). q.1) (cond b (Some (m, t)) (first_of k (pairs_list ps)))
    by true h = refl
    by false h = h

value_at_step-child : (s : Step) (t : Tree) → result_ok (value_at_step s t) ≡ child s t
value_at_step-child (key_step k) (pairs ps) = ok_or-result_ok (first_value k ps) not_found ∙ first_value-first_of k ps
value_at_step-child (key_step k) null = refl
value_at_step-child (key_step k) (boolean b) = refl
value_at_step-child (key_step k) (num l) = refl
value_at_step-child (key_step k) (text s) = refl
value_at_step-child (key_step k) (list ts) = refl
value_at_step-child (index_step i) (list ts) = ok_or-result_ok (slice_get (trees_list ts) i) not_found
value_at_step-child (index_step i) null = refl
value_at_step-child (index_step i) (boolean b) = refl
value_at_step-child (index_step i) (num l) = refl
value_at_step-child (index_step i) (text s) = refl
value_at_step-child (index_step i) (pairs ps) = refl

pub value_at_path-tree_at : (p : List Step) (t : Tree) → result_ok (value_at_path p t) ≡ tree_at p t
value_at_path-tree_at [] t = refl
value_at_path-tree_at (s ∷ p) t = by (value_at_step s t) (λ c. value_at_path-tree_at p c) ∙ ap (λ (o : Option Tree). elim o [ None ↦ None | Some u ↦ tree_at p u ]) (value_at_step-child s t)
  where
    by : (r : Changed Tree) → ((c : Tree) → result_ok (value_at_path p c) ≡ tree_at p c) → result_ok (and_then r (value_at_path p)) ≡ elim (result_ok r) as (λ _. Option Tree) [ None ↦ None | Some u ↦ tree_at p u ]
    by (Ok c) h = h c
    by (Err e) h = refl
