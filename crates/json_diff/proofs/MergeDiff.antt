-- A merge patch between two trees leads from the one to the other.
use Rattle.std.proofs.Common.{◌≡◌, ◌⊎◌, inl, inr, ℕ, List, [], ◌∷◌, ◌++◌, Bool, true, false, cond, ◌&&◌, Option, Some, None, refl, sym, ap, ap₂, ◌∙◌, subst, bytes_eq}
use Rattle.std.specs.Prelude.{option_map}
use Rattle.std.specs.Option.{option_eq}
use Rattle.std.proofs.lemmas.Bool.{and_from}
use Rattle.json_grammar.specs.Tree.{Tree, null, boolean, num, text, list, pairs, Pairs, no_pairs, pair_and, list_pairs}
use Rattle.json_model.specs.Edit.{inserted, without_key, has_key}
use Rattle.json_model.specs.Same.{first_value, same}
use Rattle.json_model.proofs.Equality.{same_itself}
use Rattle.json_model.proofs.Members.{same_key, key_itself}
use Rattle.json_patch.specs.Merge.{members_or_none, is_null, merge_patched, pairs_merged}
use Rattle.json_patch.specs.Laws.{HasNoRepeatedKeys, MembersHaveNoRepeatedKeys}
use Rattle.json_diff.specs.MergeDiff.{has_unique_keys, is_object, is_same_as, removals, appended, merge_change, differing_patch, changes, MergePatchLeads, MergePatchOfSame, HasNoNullMember, AreNoNullMembers, MergePatchExists}
use Rattle.json_patch.proofs.MergeLaws.{first_in, first_of_values, one_merged, others_stay}
use Rattle.json_diff.proofs.UniqueKeys.{true_false, first_absent, first_of_inserted, first_beside_inserted, first_of_removed, first_beside_removed, keys_turned, keys_apart, unique_parts, unique_from, unique_inserted, unique_removed, same_by_members}
use Rattle.json_value.specs.Steps.{tree_or_null}

abbrev Members : Type 0
Members = List (List ℕ × Tree)

no_patch : {A : Type 0} (x : A) → None ≡ Some x → ⊥
no_patch x e = cc

-- ---- any patch

pub merged_unique : (ps qs : Pairs) → has_unique_keys ps ≡ true → has_unique_keys (pairs_merged ps qs) ≡ true
merged_unique ps no_pairs h = h
merged_unique ps (pair_and k v qs) h = merged_unique (one_merged k v ps) qs (by (is_null v))
  where
    by : (b : Bool) → has_unique_keys (cond b (without_key k ps) (inserted k (merge_patched (tree_or_null (first_value k ps)) v) ps)) ≡ true
    by true = unique_removed k ps h
    by false = unique_inserted k (merge_patched (tree_or_null (first_value k ps)) v) ps h

pub first_stays : (n : List ℕ) (ps qs : Pairs) → has_key n qs ≡ false → first_value n (pairs_merged ps qs) ≡ first_value n ps
first_stays n ps qs h = first_of_values n (pairs_merged ps qs) ∙ ap first_in (others_stay n ps qs h) ∙ sym (first_of_values n ps)

merged_append : (ps : Pairs) (rs cs : Members) → pairs_merged ps (list_pairs (rs ++ cs)) ≡ pairs_merged (pairs_merged ps (list_pairs rs)) (list_pairs cs)
merged_append ps [] cs = refl
merged_append ps (r ∷ rs) cs = merged_append (one_merged r.0 r.1 ps) rs cs

-- ---- what is removed

pub removals_beside : (n : List ℕ) (qs ps : Pairs) → has_key n qs ≡ true → has_key n (list_pairs (removals qs ps)) ≡ false
removals_beside n qs no_pairs h = refl
removals_beside n qs (pair_and k t ps) h = by (has_key k qs) refl (removals_beside n qs ps h)
  where
    by : (b : Bool) → has_key k qs ≡ b → has_key n (list_pairs (removals qs ps)) ≡ false → has_key n (list_pairs (cond b (removals qs ps) ((k, null) ∷ removals qs ps))) ≡ false
    by true e i = i
    by false e i = ap (λ b. cond b true (has_key n (list_pairs (removals qs ps)))) (keys_turned n k (keys_apart n k qs h e)) ∙ i

pub removals_gone : (n : List ℕ) (ms qs ps : Pairs) → has_key n qs ≡ false → (has_key n ps ≡ false → first_value n ms ≡ None) → first_value n (pairs_merged ms (list_pairs (removals qs ps))) ≡ None
removals_gone n ms qs no_pairs h g = g refl
removals_gone n ms qs (pair_and k t ps) h g = by (has_key k qs) refl (λ rs. removals_gone n rs qs ps h)
  where
    after : (b : Bool) → bytes_eq k n ≡ b → has_key n ps ≡ false → first_value n (without_key k ms) ≡ None
    after true e f = ap (λ m. first_value m (without_key k ms)) (sym (same_key k n e)) ∙ first_of_removed k ms
    after false e f = first_beside_removed k n ms e ∙ g (ap (λ b. cond b true (has_key n ps)) e ∙ f)

    by : (b : Bool) → has_key k qs ≡ b
        → ((rs : Pairs) → (has_key n ps ≡ false → first_value n rs ≡ None) → first_value n (pairs_merged rs (list_pairs (removals qs ps))) ≡ None)
        → first_value n (pairs_merged ms (list_pairs (cond b (removals qs ps) ((k, null) ∷ removals qs ps)))) ≡ None
    by true e i = i ms (λ f. g (ap (λ b. cond b true (has_key n ps)) (keys_apart k n qs e h) ∙ f))
    by false e i = i (without_key k ms) (after (bytes_eq k n) refl)

-- ---- what is changed

-- the parts of a change
changed_parts : (k : List ℕ) (old : Option Tree) (new : Tree) (p : Option Tree) (rest : Option Members) (cs : Members) → appended (merge_change k old new p) rest ≡ Some cs
    → ((is_same_as old new ≡ true) × (rest ≡ Some cs)) ⊎ ((is_null new ≡ false) × ((x : Tree) × (rs : Members) × (p ≡ Some x) × (rest ≡ Some rs) × (cs ≡ (k, x) ∷ rs)))
changed_parts k old new p rest cs h = by (is_same_as old new) (is_null new) p rest h
  where
    by : (a b : Bool) (p : Option Tree) (rest : Option Members) → appended (cond a (Some []) (cond b None (option_map (λ x. (k, x) ∷ []) p))) rest ≡ Some cs
        → ((a ≡ true) × (rest ≡ Some cs)) ⊎ ((b ≡ false) × ((x : Tree) × (rs : Members) × (p ≡ Some x) × (rest ≡ Some rs) × (cs ≡ (k, x) ∷ rs)))
    by true b p (Some rs) h = inl (refl, h)
    by true b p None h = absurd (no_patch cs h)
    by false true p rest h = absurd (no_patch cs h)
    by false false (Some x) (Some rs) h = inr (refl, (x, rs, refl, refl, cc))
    by false false (Some x) None h = absurd (no_patch cs h)
    by false false None rest h = absurd (no_patch cs h)

changes_beside : (n : List ℕ) (ps qs : Pairs) (cs : Members) → has_key n qs ≡ false → changes ps qs ≡ Some cs → has_key n (list_pairs cs) ≡ false
changes_beside n ps no_pairs cs h e = let same : [] ≡ cs = cc in subst (λ (xs : Members). has_key n (list_pairs xs) ≡ false) same refl
changes_beside n ps (pair_and k v qs) cs h e = by (bytes_eq k n) refl h (changed_parts k (first_value k ps) v (differing_patch (tree_or_null (first_value k ps)) v) (changes ps qs) cs e) (λ xs g. changes_beside n ps qs xs g)
  where
    by : (b : Bool) → bytes_eq k n ≡ b → cond b true (has_key n qs) ≡ false
        → ((is_same_as (first_value k ps) v ≡ true) × (changes ps qs ≡ Some cs)) ⊎ ((is_null v ≡ false) × ((x : Tree) × (rs : Members) × (differing_patch (tree_or_null (first_value k ps)) v ≡ Some x) × (changes ps qs ≡ Some rs) × (cs ≡ (k, x) ∷ rs)))
        → ((xs : Members) → has_key n qs ≡ false → changes ps qs ≡ Some xs → has_key n (list_pairs xs) ≡ false) → has_key n (list_pairs cs) ≡ false
    by true d g c i = absurd (true_false g)
    by false d g (inl c) i = i cs g c.1
    by false d g (inr c) i =
        ap (λ (xs : Members). has_key n (list_pairs xs)) c.1.4 ∙ ap (λ b. cond b true (has_key n (list_pairs c.1.1))) d ∙ i c.1.1 g c.1.3

kept_null : (t v x : Tree) → differing_patch t v ≡ Some x → is_null v ≡ false → is_null x ≡ false
kept_null t null x e h = absurd (true_false h)
kept_null t (boolean b) x e h = let same : boolean b ≡ x = cc in ap is_null (sym same)
kept_null t (num l) x e h = let same : num l ≡ x = cc in ap is_null (sym same)
kept_null t (text s) x e h = let same : text s ≡ x = cc in ap is_null (sym same)
kept_null t (list us) x e h = let same : list us ≡ x = cc in ap is_null (sym same)
kept_null t (pairs qs) x e h = by (has_unique_keys (members_or_none t) && has_unique_keys qs) (changes (members_or_none t) qs) e
  where
    by : (b : Bool) (o : Option Members) → cond b (option_map (λ rs. pairs (list_pairs (removals qs (members_or_none t) ++ rs))) o) None ≡ Some x → is_null x ≡ false
    by true (Some rs) f = let same : pairs (list_pairs (removals qs (members_or_none t) ++ rs)) ≡ x = cc in ap is_null (sym same)
    by true None f = absurd (no_patch x f)
    by false o f = absurd (no_patch x f)

same_there : (old : Option Tree) (new : Tree) → is_same_as old new ≡ true → option_eq same old (Some new) ≡ true
same_there None new e = absurd (true_false (sym e))
same_there (Some t) new e = e

patch_parts : (t : Tree) (qs : Pairs) (p : Tree) → differing_patch t (pairs qs) ≡ Some p
    → (has_unique_keys (members_or_none t) ≡ true) × (has_unique_keys qs ≡ true) × ((cs : Members) × (changes (members_or_none t) qs ≡ Some cs) × (p ≡ pairs (list_pairs (removals qs (members_or_none t) ++ cs))))
patch_parts t qs p h = by (has_unique_keys (members_or_none t)) (has_unique_keys qs) (changes (members_or_none t) qs) h
  where
    by : (a b : Bool) (o : Option Members) → cond (a && b) (option_map (λ rs. pairs (list_pairs (removals qs (members_or_none t) ++ rs))) o) None ≡ Some p
        → (a ≡ true) × (b ≡ true) × ((cs : Members) × (o ≡ Some cs) × (p ≡ pairs (list_pairs (removals qs (members_or_none t) ++ cs))))
    by true true (Some cs) f = (refl, refl, (cs, refl, cc))
    by true true None f = absurd (no_patch p f)
    by true false o f = absurd (no_patch p f)
    by false b o f = absurd (no_patch p f)

-- the members that the changes make of others, if each member is made so
abbrev LeadsAt : List ℕ → Pairs → Pairs → Members → Type 0
LeadsAt n ms qs cs = option_eq same (first_value n (pairs_merged ms (list_pairs cs))) (first_value n qs) ≡ true

-- the members of an object, made by a patch
object_leads : (t : Tree) (qs : Pairs) (p : Tree)
    → (has_unique_keys (members_or_none t) ≡ true) × (has_unique_keys qs ≡ true) × ((cs : Members) × (changes (members_or_none t) qs ≡ Some cs) × (p ≡ pairs (list_pairs (removals qs (members_or_none t) ++ cs))))
    → ((ms : Pairs) (cs : Members) (n : List ℕ) → has_unique_keys qs ≡ true → ((k : List ℕ) → has_key k qs ≡ true → first_value k ms ≡ first_value k (members_or_none t)) → changes (members_or_none t) qs ≡ Some cs → has_key n qs ≡ true
    → LeadsAt n ms qs cs)
    → same (merge_patched t p) (pairs qs) ≡ true
object_leads t qs p c leads =
    subst (λ q. same (merge_patched t q) (pairs qs) ≡ true) (sym c.2.2)
    (subst (λ (rs : Pairs). same (pairs rs) (pairs qs) ≡ true) (sym (merged_append ps gone cs))
    (same_by_members (pairs_merged left (list_pairs cs)) qs (merged_unique left (list_pairs cs) (merged_unique ps (list_pairs gone) c.0)) c.1 (λ n. at n (has_key n qs) refl)))
  where
    ps : Pairs
    ps = members_or_none t

    cs : Members
    cs = c.2.0

    gone : Members
    gone = removals qs ps

    left : Pairs
    left = pairs_merged ps (list_pairs gone)

    at : (n : List ℕ) (b : Bool) → has_key n qs ≡ b → LeadsAt n left qs cs
    at n true h = leads left cs n c.1 (λ k g. first_stays k ps (list_pairs gone) (removals_beside k qs ps g)) c.2.1 h
    at n false h =
        ap₂ (option_eq same) (first_stays n left (list_pairs cs) (changes_beside n ps qs cs h c.2.1) ∙ removals_gone n ps qs ps h (first_absent n ps)) (first_absent n qs h)

-- one more member
change_leads : (ms ps : Pairs) (k : List ℕ) (v : Tree) (qs : Pairs) (cs : Members) (n : List ℕ) → has_unique_keys (pair_and k v qs) ≡ true
    → ((m : List ℕ) → has_key m (pair_and k v qs) ≡ true → first_value m ms ≡ first_value m ps) → has_key n (pair_and k v qs) ≡ true
    → ((is_same_as (first_value k ps) v ≡ true) × (changes ps qs ≡ Some cs)) ⊎ ((is_null v ≡ false) × ((x : Tree) × (rs : Members) × (differing_patch (tree_or_null (first_value k ps)) v ≡ Some x) × (changes ps qs ≡ Some rs) × (cs ≡ (k, x) ∷ rs)))
    → ((p : Tree) → differing_patch (tree_or_null (first_value k ps)) v ≡ Some p → same (merge_patched (tree_or_null (first_value k ps)) p) v ≡ true)
    → ((ns : Pairs) (xs : Members) (m : List ℕ) → has_unique_keys qs ≡ true → ((k : List ℕ) → has_key k qs ≡ true → first_value k ns ≡ first_value k ps) → changes ps qs ≡ Some xs → has_key m qs ≡ true
    → LeadsAt m ns qs xs)
    → LeadsAt n ms (pair_and k v qs) cs
change_leads ms ps k v qs cs n u a h c leads more = by (bytes_eq k n) refl h c
  where
    d : (has_key k qs ≡ false) × (has_unique_keys qs ≡ true)
    d = unique_parts k v qs u

    old : Option Tree
    old = first_value k ps

    here : first_value k ms ≡ old
    here = a k (ap (λ b. cond b true (has_key k qs)) (key_itself k))

    later : (m : List ℕ) → has_key m qs ≡ true → first_value m ms ≡ first_value m ps
    later m g = a m (both (bytes_eq k m))
      where
        both : (b : Bool) → cond b true (has_key m qs) ≡ true
        both true = refl
        both false = g

    made : (x : Tree) → Pairs
    made x = inserted k (merge_patched (tree_or_null (first_value k ms)) x) ms

    after : (x : Tree) (m : List ℕ) → has_key m qs ≡ true → first_value m (made x) ≡ first_value m ps
    after x m g = first_beside_inserted k m (merge_patched (tree_or_null (first_value k ms)) x) ms (keys_turned m k (keys_apart m k qs g d.0)) ∙ later m g

    one : (x : Tree) (rs : Members) → differing_patch (tree_or_null old) v ≡ Some x → is_null v ≡ false → pairs_merged ms (list_pairs ((k, x) ∷ rs)) ≡ pairs_merged (made x) (list_pairs rs)
    one x rs e g = ap (λ b. pairs_merged (cond b (without_key k ms) (made x)) (list_pairs rs)) (kept_null (tree_or_null old) v x e g)

    by : (b : Bool) → bytes_eq k n ≡ b → cond b true (has_key n qs) ≡ true
        → ((is_same_as old v ≡ true) × (changes ps qs ≡ Some cs)) ⊎ ((is_null v ≡ false) × ((x : Tree) × (rs : Members) × (differing_patch (tree_or_null old) v ≡ Some x) × (changes ps qs ≡ Some rs) × (cs ≡ (k, x) ∷ rs)))
        → option_eq same (first_value n (pairs_merged ms (list_pairs cs))) (cond b (Some v) (first_value n qs)) ≡ true
    by true e g (inl c) =
        subst (λ m. option_eq same (first_value m (pairs_merged ms (list_pairs cs))) (Some v) ≡ true) (same_key k n e)
        (ap (λ o. option_eq same o (Some v)) (first_stays k ms (list_pairs cs) (changes_beside k ps qs cs d.0 c.1) ∙ here) ∙ same_there old v c.0)
    by true e g (inr c) =
        let x = c.1.0 in let rs = c.1.1 in
        subst (λ m. option_eq same (first_value m (pairs_merged ms (list_pairs cs))) (Some v) ≡ true) (same_key k n e)
        (ap (λ o. option_eq same o (Some v)) (
        ap (λ (xs : Members). first_value k (pairs_merged ms (list_pairs xs))) c.1.4
        ∙ ap (first_value k) (one x rs c.1.2 c.0)
        ∙ first_stays k (made x) (list_pairs rs) (changes_beside k ps qs rs d.0 c.1.3)
        ∙ first_of_inserted k (merge_patched (tree_or_null (first_value k ms)) x) ms
        ∙ ap (λ o. Some (merge_patched (tree_or_null o) x)) here
        ) ∙ leads x c.1.2)
    by false e g (inl c) = more ms cs n d.1 later c.1 g
    by false e g (inr c) =
        let x = c.1.0 in let rs = c.1.1 in
        ap (λ o. option_eq same o (first_value n qs)) (ap (λ (xs : Members). first_value n (pairs_merged ms (list_pairs xs))) c.1.4 ∙ ap (first_value n) (one x rs c.1.2 c.0))
        ∙ more (made x) rs n d.1 (after x) c.1.3 g

mutual
  pub patch_leads : (t u p : Tree) → differing_patch t u ≡ Some p → same (merge_patched t p) u ≡ true
  patch_leads t null p e = let is : null ≡ p = cc in subst (λ q. same (merge_patched t q) null ≡ true) is refl
  patch_leads t (boolean b) p e = let is : boolean b ≡ p = cc in subst (λ q. same (merge_patched t q) (boolean b) ≡ true) is (same_itself (boolean b))
  patch_leads t (num l) p e = let is : num l ≡ p = cc in subst (λ q. same (merge_patched t q) (num l) ≡ true) is (same_itself (num l))
  patch_leads t (text s) p e = let is : text s ≡ p = cc in subst (λ q. same (merge_patched t q) (text s) ≡ true) is (same_itself (text s))
  patch_leads t (list us) p e = let is : list us ≡ p = cc in subst (λ q. same (merge_patched t q) (list us) ≡ true) is (same_itself (list us))
  patch_leads t (pairs qs) p e = object_leads t qs p (patch_parts t qs p e) (λ ms cs n. changes_lead ms (members_or_none t) qs cs n)

  changes_lead : (ms ps qs : Pairs) (cs : Members) (n : List ℕ) → has_unique_keys qs ≡ true → ((k : List ℕ) → has_key k qs ≡ true → first_value k ms ≡ first_value k ps) → changes ps qs ≡ Some cs → has_key n qs ≡ true
      → LeadsAt n ms qs cs
  changes_lead ms ps no_pairs cs n u a e h = absurd (true_false (sym h))
  changes_lead ms ps (pair_and k v qs) cs n u a e h =
      change_leads ms ps k v qs cs n u a h (changed_parts k (first_value k ps) v (differing_patch (tree_or_null (first_value k ps)) v) (changes ps qs) cs e)
      (λ p. patch_leads (tree_or_null (first_value k ps)) v p) (λ ns xs m. changes_lead ns ps qs xs m)

pub merge_patch_leads : MergePatchLeads
merge_patch_leads t u p h = by t u p (is_object t && same t u) refl h
  where
    by : (t u p : Tree) (b : Bool) → (is_object t && same t u) ≡ b → cond b (Some (pairs no_pairs)) (differing_patch t u) ≡ Some p → same (merge_patched t p) u ≡ true
    by t u p false e h = patch_leads t u p h
    by (pairs ps) u p true e h = let is : pairs no_pairs ≡ p = cc in subst (λ q. same (merge_patched (pairs ps) q) u ≡ true) is e
    by null u p true e h = absurd (true_false (sym e))
    by (boolean c) u p true e h = absurd (true_false (sym e))
    by (num l) u p true e h = absurd (true_false (sym e))
    by (text s) u p true e h = absurd (true_false (sym e))
    by (list ts) u p true e h = absurd (true_false (sym e))

pub merge_patch_of_same : MergePatchOfSame
merge_patch_of_same ps qs h = ap (λ b. cond b (Some (pairs no_pairs)) (differing_patch (pairs ps) (pairs qs))) h

-- ---- where there is a patch

members_unique : (ps : Pairs) → MembersHaveNoRepeatedKeys ps → has_unique_keys ps ≡ true
members_unique no_pairs h = refl
members_unique (pair_and k v ps) h = unique_from k v ps h.0 (members_unique ps h.2)

tree_unique : (t : Tree) → HasNoRepeatedKeys t → MembersHaveNoRepeatedKeys (members_or_none t)
tree_unique (pairs ps) h = h
tree_unique null h = tt
tree_unique (boolean b) h = tt
tree_unique (num l) h = tt
tree_unique (text s) h = tt
tree_unique (list ts) h = tt

first_unique : (k : List ℕ) (ps : Pairs) → MembersHaveNoRepeatedKeys ps → HasNoRepeatedKeys (tree_or_null (first_value k ps))
first_unique k no_pairs h = tt
first_unique k (pair_and n t ps) h = by (bytes_eq n k) (first_unique k ps h.2)
  where
    by : (b : Bool) → HasNoRepeatedKeys (tree_or_null (first_value k ps)) → HasNoRepeatedKeys (tree_or_null (cond b (Some t) (first_value k ps)))
    by true i = h.1
    by false i = i

change_exists : (k : List ℕ) (old : Option Tree) (v : Tree) (p : Option Tree) (rest : Option Members) → is_null v ≡ false → (x : Tree) × (p ≡ Some x) → (rs : Members) × (rest ≡ Some rs)
    → (cs : Members) × (appended (merge_change k old v p) rest ≡ Some cs)
change_exists k old v p rest h a b = by (is_same_as old v)
  where
    by : (c : Bool) → (cs : Members) × (appended (cond c (Some []) (cond (is_null v) None (option_map (λ x. (k, x) ∷ []) p))) rest ≡ Some cs)
    by true = (b.0, ap (appended (Some [])) b.1)
    by false = ((k, a.0) ∷ b.0, ap (λ c. appended (cond c None (option_map (λ x. (k, x) ∷ []) p)) rest) h ∙ ap₂ (λ o r. appended (option_map (λ x. (k, x) ∷ []) o) r) a.1 b.1)

object_exists : (t : Tree) (qs : Pairs) → MembersHaveNoRepeatedKeys (members_or_none t) → MembersHaveNoRepeatedKeys qs → (cs : Members) × (changes (members_or_none t) qs ≡ Some cs) → (p : Tree) × (differing_patch t (pairs qs) ≡ Some p)
object_exists t qs h g a = (
  pairs (list_pairs (removals qs (members_or_none t) ++ a.0)),
  ap₂ (λ b o. cond b (option_map (λ rs. pairs (list_pairs (removals qs (members_or_none t) ++ rs))) o) None) (and_from (has_unique_keys (members_or_none t)) (has_unique_keys qs) (members_unique (members_or_none t) h) (members_unique qs g)) a.1,
)

mutual
  patch_exists : (t u : Tree) → HasNoRepeatedKeys t → HasNoRepeatedKeys u → HasNoNullMember u → (p : Tree) × (differing_patch t u ≡ Some p)
  patch_exists t null h g f = (null, refl)
  patch_exists t (boolean b) h g f = (boolean b, refl)
  patch_exists t (num l) h g f = (num l, refl)
  patch_exists t (text s) h g f = (text s, refl)
  patch_exists t (list us) h g f = (list us, refl)
  patch_exists t (pairs qs) h g f = object_exists t qs (tree_unique t h) g (changes_exist (members_or_none t) qs (tree_unique t h) g f)

  changes_exist : (ps qs : Pairs) → MembersHaveNoRepeatedKeys ps → MembersHaveNoRepeatedKeys qs → AreNoNullMembers qs → (cs : Members) × (changes ps qs ≡ Some cs)
  changes_exist ps no_pairs h g f = ([], refl)
  changes_exist ps (pair_and k v qs) h g f =
      change_exists k (first_value k ps) v (differing_patch (tree_or_null (first_value k ps)) v) (changes ps qs) f.0 (patch_exists (tree_or_null (first_value k ps)) v (first_unique k ps h) g.1 f.1) (changes_exist ps qs h g.2 f.2)

pub merge_patch_exists : MergePatchExists
merge_patch_exists t u h g f = by (is_object t && same t u) (patch_exists t u h g f)
  where
    by : (b : Bool) → (p : Tree) × (differing_patch t u ≡ Some p) → (p : Tree) × (cond b (Some (pairs no_pairs)) (differing_patch t u) ≡ Some p)
    by true a = (pairs no_pairs, refl)
    by false a = a
