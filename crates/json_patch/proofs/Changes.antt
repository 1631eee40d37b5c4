-- What operations make of trees, step by step.
use Rattle.std.proofs.Common.{◌≡◌, ℕ, zero, suc, ◌<◌, ◌≤◌, List, [], ◌∷◌, ◌++◌, Option, Some, None, Ok, Err, refl, sym, ap, ◌∙◌, subst, length, map, take, drop, arith}
use Rattle.std.specs.List.{insert}
use Rattle.std.proofs.lemmas.List.{map-append, take-map, drop-map}
use Rattle.std.specs.Result.{result_ok}
use Rattle.json_grammar.specs.Tree.{Tree, pairs, tree_and, list_trees, list_pairs}
use Rattle.json_model.specs.Edit.{Step, remove_at, Changed, EditRefusal, within, at_path, edited_once, inserted, not_found, and_then}
use Rattle.json_value.specs.Denotes.{tree_of, pairs_in}
use Rattle.json_value.specs.declared.container.Container.{Container}
use Rattle.json_value.specs.declared.pair.Keyed.{Keyed}
use Rattle.json_value.specs.declared.value.Value.{Value, Object}
use Rattle.json_value.proofs.ValueLevels.{object_tree}
use Rattle.json_value.specs.Steps.{tree_at}
use Rattle.json_patch.specs.ValuesAt.{value_at_path}
use Rattle.json_patch.specs.Pointer.{ReferenceToken, step_of_token, path_of_tokens, value_at_pointer}
use Rattle.json_patch.specs.Patch.{insert_before, insert_at_index, with_child, added_at, removed_at, removal_edit}
use Rattle.json_patch.proofs.PatchLaws.{added_at-append, removed_at-append, removed_alike_all}
use Rattle.json_patch.proofs.ReplacedAt.{at_path-replaced, replaced_at_path}
use Rattle.json_patch.specs.Lookups.{value_at_token}
use Rattle.json_patch.proofs.ValueAtPath.{value_at_path-tree_at}
use Rattle.json_patch.proofs.Lookups.{value_at_pointer-cons}

-- ---- into an array

-- before an element, or after the last
pub insert_before_within : (xs : List Tree) (i : ℕ) (u : Tree) → i ≤ length xs → insert_before i u (list_trees xs) ≡ Ok (list_trees (insert xs i u))
insert_before_within xs zero u h = refl
insert_before_within [] (suc i) u h = absurd (omega arith)
insert_before_within (x ∷ xs) (suc i) u h = ap (within (λ us. tree_and x us)) (insert_before_within xs i u (omega arith))

insert_before_past : (xs : List Tree) (i : ℕ) (u : Tree) → length xs < i → insert_before i u (list_trees xs) ≡ Err not_found
insert_before_past xs zero u h = absurd (omega arith)
insert_before_past [] (suc i) u h = refl
insert_before_past (x ∷ xs) (suc i) u h = ap (within (λ us. tree_and x us)) (insert_before_past xs i u (omega arith))

-- no index up to the length
pub insert_at_no_index : (o : Option ℕ) (xs : List Tree) (u : Tree) → ((i : ℕ) → o ≡ Some i → length xs < i) → insert_at_index o u (list_trees xs) ≡ Err not_found
insert_at_no_index None xs u h = refl
insert_at_no_index (Some i) xs u h = insert_before_past xs i u (h i refl)

pub insert-map : {A B : Type 0} (f : A → B) (xs : List A) (i : ℕ) (x : A) → map f (insert xs i x) ≡ insert (map f xs) i (f x)
insert-map f xs i x =
    map-append f (take i xs) (x ∷ drop i xs) ∙ ap (λ ys. ys ++ f x ∷ map f (drop i xs)) (sym (take-map f i xs)) ∙ ap (λ ys. take i (map f xs) ++ f x ∷ ys) (sym (drop-map f i xs))

-- ---- along a path

pub added_below : (p : List ReferenceToken) (k : ReferenceToken) (u t : Tree) (q : List Step) → path_of_tokens p t ≡ Ok q → added_at (p ++ (k ∷ [])) u t ≡ at_path q (with_child k u) t
added_below p k u t q e = added_at-append p k u t ∙ ap (λ r. and_then r (λ a. at_path a (with_child k u) t)) e

pub added_nowhere : (p : List ReferenceToken) (k : ReferenceToken) (u t : Tree) (e : EditRefusal) → path_of_tokens p t ≡ Err e → added_at (p ++ (k ∷ [])) u t ≡ Err e
added_nowhere p k u t r e = added_at-append p k u t ∙ ap (λ s. and_then s (λ a. at_path a (with_child k u) t)) e

outcome_ok : (r : Changed Tree) (c : Tree) → result_ok r ≡ Some c → r ≡ Ok c
outcome_ok (Ok d) c e = let same : d ≡ c = cc in ap Ok same
outcome_ok (Err f) c e = cc

-- a change of the value at a path
pub changed_at_path : (q : List Step) (f : Tree → Changed Tree) (t c w n : Tree) → tree_at q t ≡ Some c → f c ≡ Ok w → at_path q (λ _. Ok w) t ≡ Ok n → at_path q f t ≡ Ok n
changed_at_path q f t c w n at e h =
    let here = outcome_ok (value_at_path q t) c (value_at_path-tree_at q t ∙ at) in
    at_path-replaced q f t ∙ ap (λ r. and_then r (λ d. within (λ m. replaced_at_path q m t) (f d))) here ∙ ap (within (λ m. replaced_at_path q m t)) e
    ∙ sym (ap (λ r. and_then r (λ d. within (λ m. replaced_at_path q m t) (Ok w))) here) ∙ sym (at_path-replaced q (λ _. Ok w) t) ∙ h

pub removed_below : (p : List ReferenceToken) (k : ReferenceToken) (t c : Tree) (q : List Step) (s : Step) → path_of_tokens p t ≡ Ok q → value_at_path q t ≡ Ok c → step_of_token k c ≡ Ok s → removed_at (p ++ (k ∷ [])) t ≡ edited_once (remove_at q s) t
removed_below p k t c q s e h f =
    removed_at-append p k t ∙ ap (λ r. and_then r (λ a. and_then (removal_edit a k t) (λ d. edited_once d t))) e
    ∙ ap (λ r. and_then (and_then r (λ d. within (λ b. remove_at q b) (step_of_token k d))) (λ d. edited_once d t)) h
    ∙ ap (λ r. and_then (within (λ b. remove_at q b) r) (λ d. edited_once d t)) f

pub removed_nowhere : (p : List ReferenceToken) (k : ReferenceToken) (t : Tree) (e : EditRefusal) → path_of_tokens p t ≡ Err e → removed_at (p ++ (k ∷ [])) t ≡ Err e
removed_nowhere p k t r e = removed_at-append p k t ∙ ap (λ s. and_then s (λ a. and_then (removal_edit a k t) (λ d. edited_once d t))) e

value_at_pointer-append : (p q : List ReferenceToken) (t : Tree) → value_at_pointer (p ++ q) t ≡ and_then (value_at_pointer p t) (value_at_pointer q)
value_at_pointer-append [] q t = refl
value_at_pointer-append (k ∷ p) q t = value_at_pointer-cons k (p ++ q) t ∙ by (value_at_token k t) (λ u. value_at_pointer-append p q u) ∙ sym (ap (λ r. and_then r (value_at_pointer q)) (value_at_pointer-cons k p t))
  where
    by : (r : Changed Tree) → ((u : Tree) → value_at_pointer (p ++ q) u ≡ and_then (value_at_pointer p u) (value_at_pointer q)) → and_then r (value_at_pointer (p ++ q)) ≡ and_then (and_then r (value_at_pointer p)) (value_at_pointer q)
    by (Ok u) h = h u
    by (Err e) h = refl

value_at_pointer-last : (p : List ReferenceToken) (k : ReferenceToken) (t c : Tree) (q : List Step) (e : EditRefusal) → path_of_tokens p t ≡ Ok q → value_at_path q t ≡ Ok c → value_at_token k c ≡ Err e → value_at_pointer (p ++ (k ∷ [])) t ≡ Err e
value_at_pointer-last p k t c q e f h g =
    let here : value_at_pointer p t ≡ Ok c = ap (λ r. and_then r (λ a. value_at_path a t)) f ∙ h in
    value_at_pointer-append p (k ∷ []) t ∙ ap (λ r. and_then r (value_at_pointer (k ∷ []))) here ∙ value_at_pointer-cons k [] c ∙ ap (λ r. and_then r (value_at_pointer [])) g

-- both succeed, or both fail for the same reason
abbrev Alike : Changed Tree → Changed Tree → Type 0
Alike (Ok c) r = (w : Tree) × (r ≡ Ok w)
Alike (Err e) r = r ≡ Err e

-- what does not exist cannot be removed
pub removed_absent : (p : List ReferenceToken) (k : ReferenceToken) (t c : Tree) (q : List Step) (e : EditRefusal) → path_of_tokens p t ≡ Ok q → value_at_path q t ≡ Ok c → value_at_token k c ≡ Err e → removed_at (p ++ (k ∷ [])) t ≡ Err e
removed_absent [] k t c q e f h g = subst (λ r. Alike r (removed_at (k ∷ []) t)) (value_at_pointer-last [] k t c q e f h g) (removed_alike_all k [] t)
removed_absent (j ∷ p) k t c q e f h g = subst (λ r. Alike r (removed_at (j ∷ (p ++ (k ∷ []))) t)) (value_at_pointer-last (j ∷ p) k t c q e f h g) (removed_alike_all j (p ++ (k ∷ [])) t)

-- ---- values

pub object_added : (k : List ℕ) (u : Tree) (v : Value) (o n : Container (Keyed Value)) → v ≡ Object o → inserted k u (list_pairs (pairs_in o)) ≡ list_pairs (pairs_in n) → with_child k u (tree_of v) ≡ Ok (tree_of (Object n))
object_added k u v o n is e = ap (λ w. with_child k u (tree_of w)) is ∙ ap (with_child k u) (object_tree o) ∙ ap (λ ps. Ok (pairs ps)) e ∙ ap Ok (sym (object_tree n))
