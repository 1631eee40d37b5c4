-- The operations on the members of an object.
use Rattle.std.proofs.Common.{◌≡◌, ℕ, List, [], ◌∷◌, ◌++◌, map, Bool, true, false, cond, Option, Some, None, Ok, Err, refl, sym, ap, ◌∙◌, subst, bytes_eq}
use Rattle.std.specs.Prelude.{ok_or}
use Rattle.std.specs.Option.{option_eq}
use Rattle.json_grammar.specs.Tree.{Tree, null, pairs, Pairs, no_pairs, pair_and, list_pairs}
use Rattle.json_model.specs.Edit.{key_step, not_found, within, inserted, without_key, has_key}
use Rattle.json_model.specs.Same.{first_value, same}
use Rattle.json_model.proofs.Equality.{same_itself}
use Rattle.json_model.proofs.Members.{same_key, key_itself}
use Rattle.json_patch.specs.Patch.{Operation, add_at, remove, lookup_outcome}
use Rattle.json_patch.specs.Merge.{pairs_merged}
use Rattle.json_diff.specs.MergeDiff.{has_unique_keys, removals}
use Rattle.json_diff.specs.Diff.{under, key_removals, member_operations}
use Rattle.json_patch.proofs.ReplacedAt.{replaced_at_key}
use Rattle.json_diff.proofs.UniqueKeys.{true_false, key_beside_removed, keys_turned, keys_apart, unique_parts, unique_inserted, first_of_inserted, first_beside_inserted}
use Rattle.json_diff.proofs.DiffSteps.{Makes, made_nothing, made_one, made_first, made_both, AreBelowRoot, made_under}

-- operations below the root that make a tree that is the same as another
abbrev pub Led : List Operation → Tree → Tree → Type 0
Led os t u = AreBelowRoot os × ((w : Tree) × Makes os t w × (same w u ≡ true))

-- the keys that are gone are removed
pub removals_make : (ms qs ps : Pairs) → has_unique_keys ps ≡ true → ((n : List ℕ) → has_key n ps ≡ true → has_key n ms ≡ true) → Makes (key_removals qs ps) (pairs ms) (pairs (pairs_merged ms (list_pairs (removals qs ps))))
removals_make ms qs no_pairs u h = made_nothing (pairs ms)
removals_make ms qs (pair_and k t ps) u h = by (has_key k qs) (λ ns. removals_make ns qs ps a.1)
  where
    a : (has_key k ps ≡ false) × (has_unique_keys ps ≡ true)
    a = unique_parts k t ps u

    both : (n : List ℕ) (b : Bool) → has_key n ps ≡ true → cond b true (has_key n ps) ≡ true
    both n true g = refl
    both n false g = g

    later : (n : List ℕ) → has_key n ps ≡ true → has_key n ms ≡ true
    later n g = h n (both n (bytes_eq k n) g)

    here : has_key k ms ≡ true
    here = h k (ap (λ b. cond b true (has_key k ps)) (key_itself k))

    by : (b : Bool) → ((ns : Pairs) → ((n : List ℕ) → has_key n ps ≡ true → has_key n ns ≡ true) → Makes (key_removals qs ps) (pairs ns) (pairs (pairs_merged ns (list_pairs (removals qs ps)))))
        → Makes (cond b (key_removals qs ps) (remove (k ∷ []) ∷ key_removals qs ps)) (pairs ms) (pairs (pairs_merged ms (list_pairs (cond b (removals qs ps) ((k, null) ∷ removals qs ps)))))
    by true more = more ms later
    by false more =
        made_first (remove (k ∷ [])) (key_removals qs ps) (pairs ms) (pairs (without_key k ms)) (pairs (pairs_merged (without_key k ms) (list_pairs (removals qs ps))))
        (ap (λ b. lookup_outcome (within pairs (cond b (Ok (without_key k ms)) (Err not_found)))) here)
        (more (without_key k ms) (λ n g. key_beside_removed k n ms (keys_turned n k (keys_apart n k ps g a.0)) ∙ later n g))

replaced_inserted : (k : List ℕ) (x y : Tree) (ps : Pairs) → first_value k ps ≡ Some x → replaced_at_key k y ps ≡ inserted k y ps
replaced_inserted k x y no_pairs h = cc
replaced_inserted k x y (pair_and n t ps) h = by (bytes_eq n k) h (replaced_inserted k x y ps)
  where
    by : (b : Bool) → cond b (Some t) (first_value k ps) ≡ Some x → (first_value k ps ≡ Some x → replaced_at_key k y ps ≡ inserted k y ps)
        → cond b (pair_and n y ps) (pair_and n t (replaced_at_key k y ps)) ≡ cond b (pair_and n y ps) (pair_and n t (inserted k y ps))
    by true h i = refl
    by false h i = ap (λ qs. pair_and n t qs) (i h)

-- the value of one key is made
pub member_makes : (ms : Pairs) (k : List ℕ) (old : Option Tree) (v : Tree) (os : List Operation) → first_value k ms ≡ old → ((t : Tree) → old ≡ Some t → Led os t v)
    → (y : Tree) × Makes (member_operations k old v os) (pairs ms) (pairs (inserted k y ms)) × (same y v ≡ true)
member_makes ms k None v os e h = (v, made_one (add_at (k ∷ []) v) (pairs ms) (pairs (inserted k v ms)) refl, same_itself v)
member_makes ms k (Some t) v os e h =
    let a = h t refl in
    let y : Tree = a.1.0 in
    (y, subst (λ (qs : Pairs). Makes (map (under k) os) (pairs ms) (pairs qs)) (replaced_inserted k t y ms e) (made_under os k (key_step k) (pairs ms) t y a.0 refl (ap (λ o. ok_or o not_found) e) a.1.1), a.1.2)

-- the members made of others by operations that make the second members
pub record AreMade (os : List Operation) (ms qs : Pairs) : Type 0 where
  pub made : Pairs
  pub makes : Makes os (pairs ms) (pairs made)
  pub unique : has_unique_keys ms ≡ true → has_unique_keys made ≡ true
  pub beside : (n : List ℕ) → has_key n qs ≡ false → first_value n made ≡ first_value n ms
  pub at : (n : List ℕ) → has_key n qs ≡ true → option_eq same (first_value n made) (first_value n qs) ≡ true

pub none_made : (ms : Pairs) → AreMade [] ms no_pairs
none_made ms = record {
  made = ms;
  makes = made_nothing (pairs ms);
  unique = λ u. u;
  beside = λ n h. refl;
  at = λ n h. absurd (true_false (sym h));
}

pub one_made : (os ps : List Operation) (ms qs : Pairs) (k : List ℕ) (v y : Tree) → has_key k qs ≡ false → Makes os (pairs ms) (pairs (inserted k y ms)) → same y v ≡ true → AreMade ps (inserted k y ms) qs → AreMade (os ++ ps) ms (pair_and k v qs)
one_made os ps ms qs k v y gone first is rest = record {
  made = rest.made;
  makes = made_both os ps (pairs ms) (pairs (inserted k y ms)) (pairs rest.made) first rest.makes;
  unique = λ u. rest.unique (unique_inserted k y ms u);
  beside = λ n h. beside n (bytes_eq k n) refl h;
  at = λ n h. at n (bytes_eq k n) refl h;
}
  where
    beside : (n : List ℕ) (b : Bool) → bytes_eq k n ≡ b → cond b true (has_key n qs) ≡ false → first_value n rest.made ≡ first_value n ms
    beside n true e h = absurd (true_false h)
    beside n false e h = rest.beside n h ∙ first_beside_inserted k n y ms e

    at : (n : List ℕ) (b : Bool) → bytes_eq k n ≡ b → cond b true (has_key n qs) ≡ true → option_eq same (first_value n rest.made) (cond b (Some v) (first_value n qs)) ≡ true
    at n true e h = subst (λ m. option_eq same (first_value m rest.made) (Some v) ≡ true) (same_key k n e) (ap (λ o. option_eq same o (Some v)) (rest.beside k gone ∙ first_of_inserted k y ms) ∙ is)
    at n false e h = rest.at n h
