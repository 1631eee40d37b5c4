-- Merging again, and what merging keeps.
use Rattle.std.proofs.Common.{◌≡◌, ℕ, List, [], ◌∷◌, Bool, true, false, cond, Option, Some, None, refl, sym, ap, ◌∙◌, bytes_eq}
use Rattle.std.proofs.lemmas.Slice.Eq.{bytes_eq-Decides}
use Rattle.json_grammar.specs.Tree.{Tree, null, boolean, num, text, list, pairs, Pairs, no_pairs, pair_and}
use Rattle.json_model.specs.Edit.{inserted, without_key, has_key}
use Rattle.json_model.specs.Same.{first_value}
use Rattle.json_model.specs.Sort.{values_of}
use Rattle.json_patch.specs.Merge.{members_or_none, is_null, merge_patched, pairs_merged}
use Rattle.json_patch.specs.Laws.{HasNoRepeatedKeys, MembersHaveNoRepeatedKeys, EmptyPatchKeeps, OtherMembersStay}
use Rattle.json_value.specs.Steps.{tree_or_null}

some_same : (x y : Tree) → Some x ≡ Some y → x ≡ y
some_same x y e = cc

none_some : (x : Tree) → None ≡ Some x → ⊥
none_some x e = cc

true_false : true ≡ false → ⊥
true_false e = cc

pub key_itself : (k : List ℕ) → bytes_eq k k ≡ true
key_itself k = (bytes_eq-Decides k k).1 refl

-- ---- the first value of a key

first_inserted : (k : List ℕ) (u : Tree) (ps : Pairs) → first_value k (inserted k u ps) ≡ Some u
first_inserted k u no_pairs = ap (λ b. cond b (Some u) None) (key_itself k)
first_inserted k u (pair_and m t ps) = by (bytes_eq m k) refl (first_inserted k u ps)
  where
    by : (b : Bool) → bytes_eq m k ≡ b → first_value k (inserted k u ps) ≡ Some u → first_value k (cond b (pair_and m u ps) (pair_and m t (inserted k u ps))) ≡ Some u
    by true e i = ap (λ b. cond b (Some u) (first_value k ps)) e
    by false e i = ap (λ b. cond b (Some t) (first_value k (inserted k u ps))) e ∙ i

first_without : (k : List ℕ) (ps : Pairs) → first_value k (without_key k ps) ≡ None
first_without k no_pairs = refl
first_without k (pair_and m t ps) = by (bytes_eq m k) refl (first_without k ps)
  where
    by : (b : Bool) → bytes_eq m k ≡ b → first_value k (without_key k ps) ≡ None → first_value k (cond b (without_key k ps) (pair_and m t (without_key k ps))) ≡ None
    by true e i = i
    by false e i = ap (λ b. cond b (Some t) (first_value k (without_key k ps))) e ∙ i

-- inserting a value that is there, and removing a key that is not
inserted_same : (k : List ℕ) (u : Tree) (ps : Pairs) → first_value k ps ≡ Some u → inserted k u ps ≡ ps
inserted_same k u no_pairs h = absurd (none_some u h)
inserted_same k u (pair_and m t ps) h = by (bytes_eq m k) h (inserted_same k u ps)
  where
    by : (b : Bool) → cond b (Some t) (first_value k ps) ≡ Some u → (first_value k ps ≡ Some u → inserted k u ps ≡ ps) → cond b (pair_and m u ps) (pair_and m t (inserted k u ps)) ≡ pair_and m t ps
    by true h i = ap (λ x. pair_and m x ps) (sym (some_same t u h))
    by false h i = ap (λ qs. pair_and m t qs) (i h)

without_same : (k : List ℕ) (ps : Pairs) → first_value k ps ≡ None → without_key k ps ≡ ps
without_same k no_pairs h = refl
without_same k (pair_and m t ps) h = by (bytes_eq m k) h (without_same k ps)
  where
    by : (b : Bool) → cond b (Some t) (first_value k ps) ≡ None → (first_value k ps ≡ None → without_key k ps ≡ ps) → cond b (without_key k ps) (pair_and m t (without_key k ps)) ≡ pair_and m t ps
    by true h i = absurd (none_some t (sym h))
    by false h i = ap (λ qs. pair_and m t qs) (i h)

-- ---- the values of another key

values_inserted : (k n : List ℕ) (u : Tree) (ps : Pairs) → bytes_eq k n ≡ false → values_of n (inserted k u ps) ≡ values_of n ps
values_inserted k n u no_pairs h = ap (λ b. cond b (u ∷ []) []) h
values_inserted k n u (pair_and m t ps) h = by (bytes_eq m k) refl (values_inserted k n u ps h)
  where
    by : (b : Bool) → bytes_eq m k ≡ b → values_of n (inserted k u ps) ≡ values_of n ps → values_of n (cond b (pair_and m u ps) (pair_and m t (inserted k u ps))) ≡ values_of n (pair_and m t ps)
    by true e i =
        let f : bytes_eq m n ≡ false = ap (λ x. bytes_eq x n) ((bytes_eq-Decides m k).0 e) ∙ h in
        ap (λ b. cond b (u ∷ values_of n ps) (values_of n ps)) f ∙ sym (ap (λ b. cond b (t ∷ values_of n ps) (values_of n ps)) f)
    by false e i = ap (λ x. cond (bytes_eq m n) (t ∷ x) x) i

values_without : (k n : List ℕ) (ps : Pairs) → bytes_eq k n ≡ false → values_of n (without_key k ps) ≡ values_of n ps
values_without k n no_pairs h = refl
values_without k n (pair_and m t ps) h = by (bytes_eq m k) refl (values_without k n ps h)
  where
    by : (b : Bool) → bytes_eq m k ≡ b → values_of n (without_key k ps) ≡ values_of n ps → values_of n (cond b (without_key k ps) (pair_and m t (without_key k ps))) ≡ values_of n (pair_and m t ps)
    by true e i =
        let f : bytes_eq m n ≡ false = ap (λ x. bytes_eq x n) ((bytes_eq-Decides m k).0 e) ∙ h in
        i ∙ sym (ap (λ b. cond b (t ∷ values_of n ps) (values_of n ps)) f)
    by false e i = ap (λ x. cond (bytes_eq m n) (t ∷ x) x) i

-- the first of some values
abbrev pub first_in : List Tree → Option Tree
first_in [] = None
first_in (t ∷ ts) = Some t

pub first_of_values : (k : List ℕ) (ps : Pairs) → first_value k ps ≡ first_in (values_of k ps)
first_of_values k no_pairs = refl
first_of_values k (pair_and m t ps) = by (bytes_eq m k) (first_of_values k ps)
  where
    by : (b : Bool) → first_value k ps ≡ first_in (values_of k ps) → cond b (Some t) (first_value k ps) ≡ first_in (cond b (t ∷ values_of k ps) (values_of k ps))
    by true i = refl
    by false i = i

-- ---- a merge

-- what one member of a patch makes of members
abbrev pub one_merged : List ℕ → Tree → Pairs → Pairs
one_merged k v ps = cond (is_null v) (without_key k ps) (inserted k (merge_patched (tree_or_null (first_value k ps)) v) ps)

pub values_one : (k n : List ℕ) (v : Tree) (ps : Pairs) → bytes_eq k n ≡ false → values_of n (one_merged k v ps) ≡ values_of n ps
values_one k n v ps h = by (is_null v)
  where
    by : (b : Bool) → values_of n (cond b (without_key k ps) (inserted k (merge_patched (tree_or_null (first_value k ps)) v) ps)) ≡ values_of n ps
    by true = values_without k n ps h
    by false = values_inserted k n (merge_patched (tree_or_null (first_value k ps)) v) ps h

-- a key that is not in the patch keeps its values
pub others_stay : (n : List ℕ) (ps qs : Pairs) → has_key n qs ≡ false → values_of n (pairs_merged ps qs) ≡ values_of n ps
others_stay n ps no_pairs h = refl
others_stay n ps (pair_and k v qs) h = by (bytes_eq k n) refl h (others_stay n (one_merged k v ps) qs)
  where
    by : (b : Bool) → bytes_eq k n ≡ b → cond b true (has_key n qs) ≡ false → (has_key n qs ≡ false → values_of n (pairs_merged (one_merged k v ps) qs) ≡ values_of n (one_merged k v ps))
        → values_of n (pairs_merged (one_merged k v ps) qs) ≡ values_of n ps
    by true e h i = absurd (true_false h)
    by false e h i = i h ∙ values_one k n v ps e

first_stays : (n : List ℕ) (ps qs : Pairs) → has_key n qs ≡ false → first_value n (pairs_merged ps qs) ≡ first_value n ps
first_stays n ps qs h = first_of_values n (pairs_merged ps qs) ∙ ap first_in (others_stay n ps qs h) ∙ sym (first_of_values n ps)

-- a member of a patch changes nothing more
abbrev IsSettled : List ℕ → Tree → Pairs → Type 0
IsSettled k v ps = one_merged k v ps ≡ ps

abbrev AreSettled : Pairs → Pairs → Type 0
AreSettled ps no_pairs = Unit {0}
AreSettled ps (pair_and k v qs) = IsSettled k v ps × AreSettled ps qs

settled_merge : (ps qs : Pairs) → AreSettled ps qs → pairs_merged ps qs ≡ ps
settled_merge ps no_pairs h = refl
settled_merge ps (pair_and k v qs) h = ap (λ rs. pairs_merged rs qs) h.0 ∙ settled_merge ps qs h.1

-- it does so if the first value of its key is what it made
settled_by : (k : List ℕ) (v : Tree) (ps rs : Pairs) (b : Bool) → is_null v ≡ b → ((t : Tree) → merge_patched (merge_patched t v) v ≡ merge_patched t v)
    → first_value k rs ≡ first_value k (one_merged k v ps) → IsSettled k v rs
settled_by k v ps rs true e i h =
    ap (λ b. cond b (without_key k rs) (inserted k (merge_patched (tree_or_null (first_value k rs)) v) rs)) e
    ∙ without_same k rs (h ∙ ap (λ b. first_value k (cond b (without_key k ps) (inserted k (merge_patched (tree_or_null (first_value k ps)) v) ps))) e ∙ first_without k ps)
settled_by k v ps rs false e i h =
    let w : Tree = merge_patched (tree_or_null (first_value k ps)) v in
    let f : first_value k rs ≡ Some w = h ∙ ap (λ b. first_value k (cond b (without_key k ps) (inserted k w ps))) e ∙ first_inserted k w ps in
    ap (λ b. cond b (without_key k rs) (inserted k (merge_patched (tree_or_null (first_value k rs)) v) rs)) e
    ∙ ap (λ o. inserted k (merge_patched (tree_or_null o) v) rs) f
    ∙ ap (λ x. inserted k x rs) (i (tree_or_null (first_value k ps)))
    ∙ inserted_same k w rs f

mutual
  pub merged_twice : (t p : Tree) → HasNoRepeatedKeys p → merge_patched (merge_patched t p) p ≡ merge_patched t p
  merged_twice t null h = refl
  merged_twice t (boolean b) h = refl
  merged_twice t (num l) h = refl
  merged_twice t (text s) h = refl
  merged_twice t (list ts) h = refl
  merged_twice t (pairs qs) h = ap pairs (settled_merge (pairs_merged (members_or_none t) qs) qs (settled_after (members_or_none t) qs h))

  settled_after : (ps qs : Pairs) → MembersHaveNoRepeatedKeys qs → AreSettled (pairs_merged ps qs) qs
  settled_after ps no_pairs h = tt
  settled_after ps (pair_and k v qs) h =
      (settled_by k v ps (pairs_merged (one_merged k v ps) qs) (is_null v) refl (λ t. merged_twice t v h.1) (first_stays k (one_merged k v ps) qs h.0), settled_after (one_merged k v ps) qs h.2)

pub empty_patch_keeps : EmptyPatchKeeps
empty_patch_keeps ps = refl

pub other_members_stay : OtherMembersStay
other_members_stay n ps qs h = (pairs_merged ps qs, refl, others_stay n ps qs h)
