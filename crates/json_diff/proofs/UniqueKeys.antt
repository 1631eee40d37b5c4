-- Objects in which no key repeats.
use Rattle.std.proofs.Common.{◌≡◌, ℕ, suc, List, [], ◌∷◌, ◌++◌, length, Bool, true, false, cond, not, ◌==◌, ◌&&◌, Option, Some, None, refl, sym, ap, ◌∙◌, eq-eqb, bytes_eq}
use Rattle.std.specs.Prelude.{is_some}
use Rattle.std.specs.List.{list_all}
use Rattle.std.specs.Option.{option_eq}
use Rattle.std.proofs.lemmas.Bool.{and_parts, and_from}
use Rattle.json_grammar.specs.Tree.{Tree, null, pairs, Pairs, no_pairs, pair_and}
use Rattle.json_model.specs.Edit.{inserted, without_key, has_key}
use Rattle.json_model.specs.Same.{keys, first_value, same, first_same}
use Rattle.json_model.specs.Sort.{values_of}
use Rattle.json_model.proofs.Equality.{first_agree}
use Rattle.json_model.proofs.Members.{same_key, key_itself, other_values, values_of-inserted, has_key-without_key}
use Rattle.json_patch.specs.Patch.{single_of, single_value}
use Rattle.json_diff.specs.MergeDiff.{has_unique_keys}
use Rattle.json_patch.proofs.MergeLaws.{first_in, first_of_values, values_one}

-- each key has one value of the second members
abbrev pub are_single : Pairs → Pairs → Bool
are_single qs no_pairs = true
are_single qs (pair_and k t ps) = is_some (single_value k qs) && are_single qs ps

pub true_false : true ≡ false → ⊥
true_false e = cc

pub not_true : (b : Bool) → not b ≡ true → b ≡ false
not_true true e = cc
not_true false e = refl

-- ---- keys and first values

pub has_first : (k : List ℕ) (ps : Pairs) → has_key k ps ≡ is_some (first_value k ps)
has_first k no_pairs = refl
has_first k (pair_and n t ps) = by (bytes_eq n k) (has_first k ps)
  where
    by : (b : Bool) → has_key k ps ≡ is_some (first_value k ps) → cond b true (has_key k ps) ≡ is_some (cond b (Some t) (first_value k ps))
    by true h = refl
    by false h = h

pub first_absent : (k : List ℕ) (ps : Pairs) → has_key k ps ≡ false → first_value k ps ≡ None
first_absent k ps h = by (first_value k ps) (sym (has_first k ps) ∙ h)
  where
    by : (o : Option Tree) → is_some o ≡ false → o ≡ None
    by None e = refl
    by (Some t) e = absurd (true_false e)

pub first_of_inserted : (k : List ℕ) (u : Tree) (ps : Pairs) → first_value k (inserted k u ps) ≡ Some u
first_of_inserted k u ps = first_of_values k (inserted k u ps) ∙ ap first_in (values_of-inserted k u ps)

pub first_beside_inserted : (k n : List ℕ) (u : Tree) (ps : Pairs) → bytes_eq k n ≡ false → first_value n (inserted k u ps) ≡ first_value n ps
first_beside_inserted k n u ps h =
    first_of_values n (inserted k u ps) ∙ ap first_in (other_values k u ps n (λ e. true_false (sym (key_itself k) ∙ ap (bytes_eq k) (sym e) ∙ h))) ∙ sym (first_of_values n ps)

pub first_of_removed : (k : List ℕ) (ps : Pairs) → first_value k (without_key k ps) ≡ None
first_of_removed k ps = first_absent k (without_key k ps) (has_key-without_key k ps)

pub first_beside_removed : (k n : List ℕ) (ps : Pairs) → bytes_eq k n ≡ false → first_value n (without_key k ps) ≡ first_value n ps
first_beside_removed k n ps h = first_of_values n (without_key k ps) ∙ ap first_in (values_one k n null ps h) ∙ sym (first_of_values n ps)

pub key_beside_inserted : (k n : List ℕ) (u : Tree) (ps : Pairs) → bytes_eq k n ≡ false → has_key n (inserted k u ps) ≡ has_key n ps
key_beside_inserted k n u ps h = has_first n (inserted k u ps) ∙ ap is_some (first_beside_inserted k n u ps h) ∙ sym (has_first n ps)

pub key_beside_removed : (k n : List ℕ) (ps : Pairs) → bytes_eq k n ≡ false → has_key n (without_key k ps) ≡ has_key n ps
key_beside_removed k n ps h = has_first n (without_key k ps) ∙ ap is_some (first_beside_removed k n ps h) ∙ sym (has_first n ps)

pub keys_turned : (a b : List ℕ) → bytes_eq a b ≡ false → bytes_eq b a ≡ false
keys_turned a b h = by (bytes_eq b a) refl
  where
    by : (r : Bool) → bytes_eq b a ≡ r → r ≡ false
    by true e = absurd (true_false (sym (key_itself a) ∙ ap (bytes_eq a) (sym (same_key b a e)) ∙ h))
    by false e = refl

-- two keys of which one is there and the other is not
pub keys_apart : (k n : List ℕ) (qs : Pairs) → has_key k qs ≡ true → has_key n qs ≡ false → bytes_eq k n ≡ false
keys_apart k n qs h g = by (bytes_eq k n) refl
  where
    by : (r : Bool) → bytes_eq k n ≡ r → r ≡ false
    by true e = absurd (true_false (sym h ∙ ap (λ m. has_key m qs) (same_key k n e) ∙ g))
    by false e = refl

-- ---- no key repeats

pub unique_parts : (k : List ℕ) (t : Tree) (ps : Pairs) → has_unique_keys (pair_and k t ps) ≡ true → (has_key k ps ≡ false) × (has_unique_keys ps ≡ true)
unique_parts k t ps h = let a = and_parts (not (has_key k ps)) (has_unique_keys ps) h in (not_true (has_key k ps) a.0, a.1)

pub unique_from : (k : List ℕ) (t : Tree) (ps : Pairs) → has_key k ps ≡ false → has_unique_keys ps ≡ true → has_unique_keys (pair_and k t ps) ≡ true
unique_from k t ps h g = and_from (not (has_key k ps)) (has_unique_keys ps) (ap not h) g

pub unique_inserted : (k : List ℕ) (u : Tree) (ps : Pairs) → has_unique_keys ps ≡ true → has_unique_keys (inserted k u ps) ≡ true
unique_inserted k u no_pairs h = refl
unique_inserted k u (pair_and n t ps) h = by (bytes_eq n k) refl (unique_parts n t ps h) (unique_inserted k u ps)
  where
    by : (b : Bool) → bytes_eq n k ≡ b → (has_key n ps ≡ false) × (has_unique_keys ps ≡ true) → (has_unique_keys ps ≡ true → has_unique_keys (inserted k u ps) ≡ true)
        → has_unique_keys (cond b (pair_and n u ps) (pair_and n t (inserted k u ps))) ≡ true
    by true e a i = h
    by false e a i = unique_from n t (inserted k u ps) (key_beside_inserted k n u ps (keys_turned n k e) ∙ a.0) (i a.1)

pub unique_removed : (k : List ℕ) (ps : Pairs) → has_unique_keys ps ≡ true → has_unique_keys (without_key k ps) ≡ true
unique_removed k no_pairs h = refl
unique_removed k (pair_and n t ps) h = by (bytes_eq n k) refl (unique_parts n t ps h) (unique_removed k ps)
  where
    by : (b : Bool) → bytes_eq n k ≡ b → (has_key n ps ≡ false) × (has_unique_keys ps ≡ true) → (has_unique_keys ps ≡ true → has_unique_keys (without_key k ps) ≡ true)
        → has_unique_keys (cond b (without_key k ps) (pair_and n t (without_key k ps))) ≡ true
    by true e a i = i a.1
    by false e a i = unique_from n t (without_key k ps) (key_beside_removed k n ps (keys_turned n k e) ∙ a.0) (i a.1)

-- ---- each key has one value

values_absent : (k : List ℕ) (ps : Pairs) → has_key k ps ≡ false → values_of k ps ≡ []
values_absent k no_pairs h = refl
values_absent k (pair_and n t ps) h = by (bytes_eq n k) h (values_absent k ps)
  where
    by : (b : Bool) → cond b true (has_key k ps) ≡ false → (has_key k ps ≡ false → values_of k ps ≡ []) → cond b (t ∷ values_of k ps) (values_of k ps) ≡ []
    by true e i = absurd (true_false e)
    by false e i = i e

values_there : (k : List ℕ) (ps : Pairs) → has_key k ps ≡ true → (t : Tree) × (ts : List Tree) × (values_of k ps ≡ t ∷ ts)
values_there k no_pairs h = absurd (true_false (sym h))
values_there k (pair_and n t ps) h = by (bytes_eq n k) h (values_there k ps)
  where
    by : (b : Bool) → cond b true (has_key k ps) ≡ true → (has_key k ps ≡ true → (u : Tree) × (ts : List Tree) × (values_of k ps ≡ u ∷ ts)) → (u : Tree) × (ts : List Tree) × (cond b (t ∷ values_of k ps) (values_of k ps) ≡ u ∷ ts)
    by true e i = (t, values_of k ps, refl)
    by false e i = i e

single_there : (k : List ℕ) (ps : Pairs) → has_unique_keys ps ≡ true → has_key k ps ≡ true → is_some (single_value k ps) ≡ true
single_there k no_pairs h g = absurd (true_false (sym g))
single_there k (pair_and n t ps) h g = by (bytes_eq n k) refl g (unique_parts n t ps h) (single_there k ps)
  where
    by : (b : Bool) → bytes_eq n k ≡ b → cond b true (has_key k ps) ≡ true → (has_key n ps ≡ false) × (has_unique_keys ps ≡ true)
        → (has_unique_keys ps ≡ true → has_key k ps ≡ true → is_some (single_value k ps) ≡ true) → is_some (single_of (cond b (t ∷ values_of k ps) (values_of k ps))) ≡ true
    by true e g a i = ap (λ ts. is_some (single_of (t ∷ ts))) (values_absent k ps (ap (λ m. has_key m ps) (sym (same_key n k e)) ∙ a.0))
    by false e g a i = i a.1 g

all_single : (qs ps : Pairs) → ((k : List ℕ) → has_key k ps ≡ true → is_some (single_value k qs) ≡ true) → are_single qs ps ≡ true
all_single qs no_pairs h = refl
all_single qs (pair_and k t ps) h = and_from (is_some (single_value k qs)) (are_single qs ps) (h k (ap (λ b. cond b true (has_key k ps)) (key_itself k))) (all_single qs ps (λ n g. h n (both (bytes_eq k n) (has_key n ps) g)))
  where
    both : (b c : Bool) → c ≡ true → cond b true c ≡ true
    both true c e = refl
    both false c e = e

-- a key that repeats has two values
repeated : (ps : Pairs) → has_unique_keys ps ≡ false → (k : List ℕ) × (t : Tree) × (u : Tree) × (ts : List Tree) × (values_of k ps ≡ t ∷ u ∷ ts)
repeated no_pairs h = absurd (true_false h)
repeated (pair_and n t ps) h = by (has_key n ps) refl h (repeated ps)
  where
    more : (k : List ℕ) (b : Bool) (x y : Tree) (ts : List Tree) → values_of k ps ≡ x ∷ y ∷ ts → (v : Tree) × (w : Tree) × (us : List Tree) × (cond b (t ∷ values_of k ps) (values_of k ps) ≡ v ∷ w ∷ us)
    more k true x y ts e = (t, x, y ∷ ts, ap (λ us. t ∷ us) e)
    more k false x y ts e = (x, y, ts, e)

    by : (b : Bool) → has_key n ps ≡ b → (not b && has_unique_keys ps) ≡ false → (has_unique_keys ps ≡ false → (k : List ℕ) × (x : Tree) × (y : Tree) × (ts : List Tree) × (values_of k ps ≡ x ∷ y ∷ ts))
        → (k : List ℕ) × (x : Tree) × (y : Tree) × (ts : List Tree) × (values_of k (pair_and n t ps) ≡ x ∷ y ∷ ts)
    by true e f i = let a = values_there n ps e in (n, t, a.0, a.1, ap (λ b. cond b (t ∷ values_of n ps) (values_of n ps)) (key_itself n) ∙ ap (λ us. t ∷ us) a.2)
    by false e f i = let a = i f in let m = more a.0 (bytes_eq n a.0) a.1 a.2 a.3 a.4 in (a.0, m.0, m.1, m.2, m.3)

single_passed : (k : List ℕ) (qs ps : Pairs) → are_single qs ps ≡ true → has_key k ps ≡ true → is_some (single_value k qs) ≡ true
single_passed k qs no_pairs h g = absurd (true_false (sym g))
single_passed k qs (pair_and n t ps) h g = by (bytes_eq n k) refl g (and_parts (is_some (single_value n qs)) (are_single qs ps) h) (single_passed k qs ps)
  where
    by : (b : Bool) → bytes_eq n k ≡ b → cond b true (has_key k ps) ≡ true → (is_some (single_value n qs) ≡ true) × (are_single qs ps ≡ true)
        → (are_single qs ps ≡ true → has_key k ps ≡ true → is_some (single_value k qs) ≡ true) → is_some (single_value k qs) ≡ true
    by true e g a i = ap (λ m. is_some (single_value m qs)) (sym (same_key n k e)) ∙ a.0
    by false e g a i = i a.1 g

pub unique_if_single : (ps : Pairs) → are_single ps ps ≡ has_unique_keys ps
unique_if_single ps = by (has_unique_keys ps) refl
  where
    there : (k : List ℕ) (b : Bool) → has_key k ps ≡ b → (x y : Tree) (ts : List Tree) → values_of k ps ≡ x ∷ y ∷ ts → b ≡ true
    there k true e x y ts f = refl
    there k false e x y ts f = let none : [] ≡ x ∷ y ∷ ts = sym (values_absent k ps e) ∙ f in cc

    none : (c : Bool) → are_single ps ps ≡ c → (k : List ℕ) × (x : Tree) × (y : Tree) × (ts : List Tree) × (values_of k ps ≡ x ∷ y ∷ ts) → c ≡ false
    none false e a = refl
    none true e a = absurd (true_false (sym (single_passed a.0 ps ps e (there a.0 (has_key a.0 ps) refl a.1 a.2 a.3 a.4)) ∙ ap (λ ts. is_some (single_of ts)) a.4))

    by : (b : Bool) → has_unique_keys ps ≡ b → are_single ps ps ≡ b
    by true e = all_single ps ps (λ k. single_there k ps e)
    by false e = none (are_single ps ps) refl (repeated ps e)

-- ---- how many members there are

removed_absent : (k : List ℕ) (ps : Pairs) → has_key k ps ≡ false → without_key k ps ≡ ps
removed_absent k no_pairs h = refl
removed_absent k (pair_and n t ps) h = by (bytes_eq n k) h (removed_absent k ps)
  where
    by : (b : Bool) → cond b true (has_key k ps) ≡ false → (has_key k ps ≡ false → without_key k ps ≡ ps) → cond b (without_key k ps) (pair_and n t (without_key k ps)) ≡ pair_and n t ps
    by true e i = absurd (true_false e)
    by false e i = ap (λ qs. pair_and n t qs) (i e)

length_removed : (k : List ℕ) (ps : Pairs) → has_unique_keys ps ≡ true → has_key k ps ≡ true → length (keys ps) ≡ suc (length (keys (without_key k ps)))
length_removed k no_pairs h g = absurd (true_false (sym g))
length_removed k (pair_and n t ps) h g = by (bytes_eq n k) refl g (unique_parts n t ps h) (length_removed k ps)
  where
    by : (b : Bool) → bytes_eq n k ≡ b → cond b true (has_key k ps) ≡ true → (has_key n ps ≡ false) × (has_unique_keys ps ≡ true)
        → (has_unique_keys ps ≡ true → has_key k ps ≡ true → length (keys ps) ≡ suc (length (keys (without_key k ps))))
        → suc (length (keys ps)) ≡ suc (length (keys (cond b (without_key k ps) (pair_and n t (without_key k ps)))))
    by true e g a i = ap (λ qs. suc (length (keys qs))) (sym (removed_absent k ps (ap (λ m. has_key m ps) (sym (same_key n k e)) ∙ a.0)))
    by false e g a i = ap suc (i a.1 g)

-- objects of the same keys have as many members
same_lengths : (ps qs : Pairs) → has_unique_keys ps ≡ true → has_unique_keys qs ≡ true → ((k : List ℕ) → has_key k ps ≡ has_key k qs) → length (keys ps) ≡ length (keys qs)
same_lengths no_pairs no_pairs h g e = refl
same_lengths no_pairs (pair_and n u qs) h g e = absurd (true_false (sym (e n ∙ ap (λ b. cond b true (has_key n qs)) (key_itself n))))
same_lengths (pair_and n t ps) qs h g e = ap suc (same_lengths ps (without_key n qs) a.1 (unique_removed n qs g) (λ k. other k (bytes_eq n k) refl)) ∙ sym (length_removed n qs g there)
  where
    a : (has_key n ps ≡ false) × (has_unique_keys ps ≡ true)
    a = unique_parts n t ps h

    there : has_key n qs ≡ true
    there = sym (e n) ∙ ap (λ b. cond b true (has_key n ps)) (key_itself n)

    other : (k : List ℕ) (b : Bool) → bytes_eq n k ≡ b → has_key k ps ≡ has_key k (without_key n qs)
    other k true d = let f = same_key n k d in ap (λ m. has_key m ps) (sym f) ∙ a.0 ∙ sym (ap (λ m. has_key m (without_key n qs)) (sym f) ∙ has_key-without_key n qs)
    other k false d = sym (ap (λ b. cond b true (has_key k ps)) d) ∙ e k ∙ sym (key_beside_removed n k qs d)

-- ---- objects that are the same

all_pass : (f : List ℕ → Bool) (ks : List (List ℕ)) → ((k : List ℕ) → f k ≡ true) → list_all f ks ≡ true
all_pass f [] h = refl
all_pass f (k ∷ ks) h = and_from (f k) (list_all f ks) (h k) (all_pass f ks h)

both_there : (o p : Option Tree) → option_eq same o p ≡ true → is_some o ≡ is_some p
both_there None None e = refl
both_there None (Some u) e = absurd (true_false (sym e))
both_there (Some t) None e = absurd (true_false (sym e))
both_there (Some t) (Some u) e = refl

pub same_by_members : (ps qs : Pairs) → has_unique_keys ps ≡ true → has_unique_keys qs ≡ true → ((k : List ℕ) → option_eq same (first_value k ps) (first_value k qs) ≡ true) → same (pairs ps) (pairs qs) ≡ true
same_by_members ps qs h g e =
    and_from (length (keys ps) == length (keys qs)) (list_all (λ k. first_same k ps (first_value k qs)) (keys ps ++ keys qs))
    (eq-eqb (length (keys ps)) (length (keys qs)) (same_lengths ps qs h g (λ k. has_first k ps ∙ both_there (first_value k ps) (first_value k qs) (e k) ∙ sym (has_first k qs))))
    (all_pass (λ k. first_same k ps (first_value k qs)) (keys ps ++ keys qs) (λ k. first_agree k ps (first_value k qs) ∙ e k))
