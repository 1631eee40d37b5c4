-- A merge patch between values, as the calls make it.
use Rattle.std.proofs.Common.{◌≡◌, ℕ, List, [], ◌∷◌, ◌++◌, append_assoc, Bool, true, false, cond, ◌&&◌, Option, Some, None, is_some, option_map, refl, sym, ap, ap₂, ◌∙◌, append-nil, bytes_eq, map}
use Rattle.std.specs.Prelude.{IfSome, IfNone}
use Rattle.std.proofs.lemmas.List.{map-append}
use Rattle.json_grammar.specs.Tree.{Tree, null, boolean, num, text, list, pairs, Pairs, no_pairs, list_pairs}
use Rattle.json_model.specs.Edit.{has_key}
use Rattle.json_model.specs.Same.{first_value, same}
use Rattle.json_patch.specs.Laws.{HasNoRepeatedKeys}
use Rattle.json_patch.specs.Merge.{members_or_none, is_null, merge_patched}
use Rattle.json_diff.specs.MergeDiff.{has_unique_keys, is_same_as, removals, appended, merge_change, object_patch, differing_patch, changes, is_object, merge_patch_between, HasNoNullMember}
use Rattle.json_diff.specs.MergeDiffViews.{members_in}
use Rattle.json_value.specs.Denotes.{tree_of, pair_of}
use Rattle.json_value.specs.declared.pair.Keyed.{Keyed}
use Rattle.json_value.specs.declared.value.Value.{Value}
use Rattle.json_value.specs.Seen.{object_pairs, first_of, members_seen}
use Rattle.json_value.specs.declared.object_view.ObjectView.{ObjectView}
use Rattle.json_value.proofs.SameViews.{object_seen}
use Rattle.json_value.specs.Steps.{tree_or_null}
use Rattle.json_diff.proofs.MergeDiff.{merge_patch_leads, merge_patch_exists}
use Rattle.json_diff.proofs.UniqueKeys.{has_first}

abbrev Members : Type 0
Members = List (List ℕ × Tree)

-- ---- members of views

pub first_seen : (k : List ℕ) (qs : Members) → first_value k (list_pairs qs) ≡ option_map (λ (q : List ℕ × Tree). q.1) (first_of k qs)
first_seen k [] = refl
first_seen k (q ∷ qs) = by (bytes_eq q.0 k) (first_seen k qs)
  where
    by : (b : Bool) → first_value k (list_pairs qs) ≡ option_map (λ (r : List ℕ × Tree). r.1) (first_of k qs)
        → cond b (Some q.1) (first_value k (list_pairs qs)) ≡ option_map (λ (r : List ℕ × Tree). r.1) (cond b (Some q) (first_of k qs))
    by true h = refl
    by false h = h

-- what is found shows whether the key is there
pub key_seen : {X : Type 0} (f : X → Tree) (k : List ℕ) (qs : Members) (o : Option X) → option_map f o ≡ option_map (λ (q : List ℕ × Tree). q.1) (first_of k qs) → has_key k (list_pairs qs) ≡ is_some o
key_seen {X} f k qs o e = has_first k (list_pairs qs) ∙ ap is_some (first_seen k qs ∙ sym e) ∙ by o
  where
    by : (o : Option X) → is_some (option_map f o) ≡ is_some o
    by None = refl
    by (Some x) = refl

pub members_of_seen : (t : Tree) (qs : Members) → Some qs ≡ object_pairs t → list_pairs qs ≡ members_or_none t
members_of_seen t qs e = sym (ap members_or_none (object_seen t qs e))

pub members_of_none : (t : Tree) → None ≡ object_pairs t → no_pairs ≡ members_or_none t
members_of_none (pairs ps) e = cc
members_of_none null e = refl
members_of_none (boolean b) e = refl
members_of_none (num l) e = refl
members_of_none (text s) e = refl
members_of_none (list ts) e = refl

-- ---- members of a patch

pub removal_more : (rs : Members) (qs : Pairs) (k : List ℕ) (t : Tree) (left : Members) → has_key k qs ≡ false → rs ++ removals qs (list_pairs ((k, t) ∷ left)) ≡ (rs ++ (k, null) ∷ []) ++ removals qs (list_pairs left)
removal_more rs qs k t left h = ap (λ b. rs ++ cond b (removals qs (list_pairs left)) ((k, null) ∷ removals qs (list_pairs left))) h ∙ sym (append_assoc rs ((k, null) ∷ []) (removals qs (list_pairs left)))

pub removal_none : (rs : Members) (qs : Pairs) (k : List ℕ) (t : Tree) (left : Members) → has_key k qs ≡ true → rs ++ removals qs (list_pairs ((k, t) ∷ left)) ≡ rs ++ removals qs (list_pairs left)
removal_none rs qs k t left h = ap (λ b. rs ++ cond b (removals qs (list_pairs left)) ((k, null) ∷ removals qs (list_pairs left))) h

appended_assoc : (xs : Members) (c r : Option Members) → appended (Some xs) (appended c r) ≡ appended (appended (Some xs) c) r
appended_assoc xs (Some ys) (Some zs) = ap Some (sym (append_assoc xs ys zs))
appended_assoc xs (Some ys) None = refl
appended_assoc xs None r = refl

-- the changes go on after a change that was made, and end at one that cannot be
pub changes_more : (xs ys : Members) (c r : Option Members) → appended (Some xs) c ≡ Some ys → appended (Some xs) (appended c r) ≡ appended (Some ys) r
changes_more xs ys c r h = appended_assoc xs c r ∙ ap (λ o. appended o r) h

-- ---- the patch

pub object_members : (o : Option ObjectView) (t : Tree) → option_map members_seen o ≡ object_pairs t → members_in o ≡ members_or_none t
object_members None t e = members_of_none t e
object_members (Some o) t e = members_of_seen t (members_seen o) e

pub object_patch_is : (ps qs : Pairs) (cs o : Option Members) → (has_unique_keys ps && has_unique_keys qs) ≡ true → appended (Some (removals qs ps)) cs ≡ o → object_patch ps qs cs ≡ option_map (λ rs. pairs (list_pairs rs)) o
object_patch_is ps qs cs o h e = ap (λ b. cond b (option_map (λ rs. pairs (list_pairs (removals qs ps ++ rs))) cs) None) h ∙ by cs ∙ ap (option_map (λ rs. pairs (list_pairs rs))) e
  where
    by : (cs : Option Members) → option_map (λ (rs : Members). pairs (list_pairs (removals qs ps ++ rs))) cs ≡ option_map (λ rs. pairs (list_pairs rs)) (appended (Some (removals qs ps)) cs)
    by (Some rs) = refl
    by None = refl

pub object_patch_none : (ps qs : Pairs) (cs : Option Members) → (has_unique_keys ps && has_unique_keys qs) ≡ false → object_patch ps qs cs ≡ None
object_patch_none ps qs cs h = ap (λ b. cond b (option_map (λ rs. pairs (list_pairs (removals qs ps ++ rs))) cs) None) h

-- ---- one change

pub change_same : (xs : Members) (k : List ℕ) (o : Option Tree) (v : Tree) (p : Option Tree) → is_same_as o v ≡ true → appended (Some xs) (merge_change k o v p) ≡ Some xs
change_same xs k o v p h = ap (λ b. appended (Some xs) (cond b (Some []) (cond (is_null v) None (option_map (λ x. (k, x) ∷ []) p)))) h ∙ ap Some (append-nil xs)

pub change_null : (xs : Members) (k : List ℕ) (o : Option Tree) (v : Tree) (p : Option Tree) → is_same_as o v ≡ false → is_null v ≡ true → appended (Some xs) (merge_change k o v p) ≡ None
change_null xs k o v p h g = ap₂ (λ b c. appended (Some xs) (cond b (Some []) (cond c None (option_map (λ x. (k, x) ∷ []) p)))) h g

pub change_made : (xs : Members) (k : List ℕ) (o : Option Tree) (v : Tree) (p : Option Tree) (x : Tree) → is_same_as o v ≡ false → is_null v ≡ false → p ≡ Some x → appended (Some xs) (merge_change k o v p) ≡ Some (xs ++ (k, x) ∷ [])
change_made xs k o v p x h g e = ap₂ (λ b c. appended (Some xs) (cond b (Some []) (cond c None (option_map (λ x. (k, x) ∷ []) p)))) h g ∙ ap (λ q. appended (Some xs) (option_map (λ x. (k, x) ∷ []) q)) e

pub change_missing : (xs : Members) (k : List ℕ) (o : Option Tree) (v : Tree) (p : Option Tree) → is_same_as o v ≡ false → is_null v ≡ false → p ≡ None → appended (Some xs) (merge_change k o v p) ≡ None
change_missing xs k o v p h g e = ap₂ (λ b c. appended (Some xs) (cond b (Some []) (cond c None (option_map (λ x. (k, x) ∷ []) p)))) h g ∙ ap (λ q. appended (Some xs) (option_map (λ x. (k, x) ∷ []) q)) e

pub ruleset one_change = (change_same, change_null, change_made, change_missing)

pub ruleset of_object = (object_patch_is, object_patch_none)

-- ---- members that are pushed

pub pushed : (items more : List (Keyed Value)) (m : Keyed Value) (n k : List ℕ) (v t : Tree) → more ≡ items ++ m ∷ [] → pair_of m ≡ (n, v) → n ≡ k → v ≡ t → map pair_of more ≡ map pair_of items ++ (k, t) ∷ []
pushed items more m n k v t e p f g = ap (map pair_of) e ∙ map-append pair_of items (m ∷ []) ∙ ap (λ (q : List ℕ × Tree). map pair_of items ++ q ∷ []) (p ∙ ap₂ (λ (a : List ℕ) (b : Tree). (a, b)) f g)

-- ---- what is known of the patch

pub leads_in : (t u : Tree) (o : Option Value) → merge_patch_between t u ≡ option_map tree_of o → IfSome o (λ p. same (merge_patched t (tree_of p)) u ≡ true)
leads_in t u None e = tt
leads_in t u (Some p) e = merge_patch_leads t u (tree_of p) e

pub same_in : (t u : Tree) (o : Option Value) → merge_patch_between t u ≡ option_map tree_of o → is_object t ≡ true → same t u ≡ true → option_map tree_of o ≡ Some (pairs no_pairs)
same_in t u o e h g = sym e ∙ ap₂ (λ (a b : Bool). cond (a && b) (Some (pairs no_pairs)) (differing_patch t u)) h g

nothing : (p : Tree) → None ≡ Some p → ⊥
nothing p e = cc

pub none_in : (t u : Tree) (o : Option Value) → merge_patch_between t u ≡ option_map tree_of o → IfNone o (HasNoRepeatedKeys t → HasNoRepeatedKeys u → HasNoNullMember u → ⊥)
none_in t u None e = λ h g n. let p = merge_patch_exists t u h g n in nothing p.0 (sym e ∙ p.1)
none_in t u (Some p) e = tt

-- the changes of the members left, after one that was made
change_of : (xs : Members) (k : List ℕ) (o p : Option Tree) (v : Tree) → o ≡ p → appended (Some xs) (merge_change k p v (differing_patch (tree_or_null p) v)) ≡ appended (Some xs) (merge_change k o v (differing_patch (tree_or_null o) v))
change_of xs k o p v e = sym (ap (λ (x : Option Tree). appended (Some xs) (merge_change k x v (differing_patch (tree_or_null x) v))) e)

pub changes_after : (xs ys : Members) (k : List ℕ) (v : Tree) (ps : Pairs) (all left : Members) (o : Option Tree) (made : Bool) → all ≡ (k, v) ∷ left → o ≡ first_value k ps → appended (Some xs) (merge_change k o v (differing_patch (tree_or_null o) v)) ≡ cond made (Some ys) None → made ≡ true → appended (Some xs) (changes ps (list_pairs all)) ≡ appended (Some ys) (changes ps (list_pairs left))
changes_after xs ys k v ps all left o made e f h g =
    ap (λ (ms : Members). appended (Some xs) (changes ps (list_pairs ms))) e
    ∙ changes_more xs ys (merge_change k (first_value k ps) v (differing_patch (tree_or_null (first_value k ps)) v)) (changes ps (list_pairs left)) (change_of xs k o (first_value k ps) v f ∙ h ∙ ap (λ (b : Bool). cond b (Some ys) None) g)
