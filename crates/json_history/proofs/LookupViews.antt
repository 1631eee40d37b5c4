-- The value at a path, looked up and viewed.
use Rattle.std.proofs.Common.{◌≡◌, ℕ, List, [], ◌∷◌, Bool, true, false, cond, Option, Some, None, Ok, Err, refl, ap, ◌∙◌, bytes_eq}
use Rattle.std.specs.Prelude.{ok_or, option_map, slice_get}
use Rattle.std.specs.Result.{result_ok}
use Rattle.json_grammar.specs.Tree.{Tree, null, boolean, num, text, list, pairs, trees_list, Pairs, no_pairs, pair_and, pairs_list}
use Rattle.json_model.specs.Edit.{Step, key_step, index_step, Changed, EditRefusal, not_found, and_then}
use Rattle.json_model.specs.Same.{first_value}
use Rattle.json_value.specs.Seen.{first_of}
use Rattle.json_value.specs.Steps.{child, tree_at}
use Rattle.json_history.specs.Lookup.{lookup_step, lookup}

pub result_ok_ok_or : (o : Option Tree) (r : EditRefusal) → result_ok (ok_or o r) ≡ o
result_ok_ok_or None r = refl
result_ok_ok_or (Some t) r = refl

pub first_value_first_of : (k : List ℕ) (ps : Pairs) → first_value k ps ≡ option_map (λ (q : List ℕ × Tree). q.1) (first_of k (pairs_list ps))
first_value_first_of k no_pairs = refl
first_value_first_of k (pair_and m t ps) = by (bytes_eq m k) (first_value_first_of k ps)
  where
    by : (b : Bool) → first_value k ps ≡ option_map (λ (q : List ℕ × Tree). q.1) (first_of k (pairs_list ps))
        → cond b (Some t) (first_value k ps) ≡ option_map (λ (q : List ℕ × Tree). q.1) (cond b (Some (m, t)) (first_of k (pairs_list ps)))
    by true h = refl
    by false h = h

pub lookup_step_child : (s : Step) (t : Tree) → result_ok (lookup_step s t) ≡ child s t
lookup_step_child (key_step k) (pairs ps) = result_ok_ok_or (first_value k ps) not_found ∙ first_value_first_of k ps
lookup_step_child (key_step k) null = refl
lookup_step_child (key_step k) (boolean b) = refl
lookup_step_child (key_step k) (num l) = refl
lookup_step_child (key_step k) (text s) = refl
lookup_step_child (key_step k) (list ts) = refl
lookup_step_child (index_step i) (list ts) = result_ok_ok_or (slice_get (trees_list ts) i) not_found
lookup_step_child (index_step i) null = refl
lookup_step_child (index_step i) (boolean b) = refl
lookup_step_child (index_step i) (num l) = refl
lookup_step_child (index_step i) (text s) = refl
lookup_step_child (index_step i) (pairs ps) = refl

pub lookup_tree_at : (p : List Step) (t : Tree) → result_ok (lookup p t) ≡ tree_at p t
lookup_tree_at [] t = refl
lookup_tree_at (s ∷ p) t = by (lookup_step s t) (λ c. lookup_tree_at p c) ∙ ap (λ (o : Option Tree). elim o [ None ↦ None | Some u ↦ tree_at p u ]) (lookup_step_child s t)
  where
    by : (r : Changed Tree) → ((c : Tree) → result_ok (lookup p c) ≡ tree_at p c) → result_ok (and_then r (lookup p)) ≡ elim (result_ok r) as (λ _. Option Tree) [ None ↦ None | Some u ↦ tree_at p u ]
    by (Ok c) h = h c
    by (Err e) h = refl

result_some : {A : Type 0} (r : Changed A) (x : A) → result_ok r ≡ Some x → r ≡ Ok x
result_some (Ok y) x e = let s : y ≡ x = cc in ap Ok s
result_some (Err r) x e = absurd (cc)

-- the value at a path
pub lookup_some : (p : List Step) (t c : Tree) → tree_at p t ≡ Some c → lookup p t ≡ Ok c
lookup_some p t c e = result_some (lookup p t) c (lookup_tree_at p t ∙ e)
