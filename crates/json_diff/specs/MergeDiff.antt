-- The merge patch (RFC 7396) that leads from one tree to another.
use Rattle.std.specs.Prelude.{◌≡◌, ℕ, List, [], ◌∷◌, ◌++◌, Bool, true, false, cond, not, ◌&&◌, Option, None, Some, option_map}
use Rattle.json_grammar.specs.Tree.{Tree, null, boolean, num, text, list, pairs, Pairs, no_pairs, pair_and, list_pairs}
use Rattle.json_model.specs.Edit.{has_key}
use Rattle.json_model.specs.Same.{first_value, same}
use Rattle.json_patch.specs.Laws.{HasNoRepeatedKeys}
use Rattle.json_patch.specs.Merge.{members_or_none, is_null, merge_patched}
use Rattle.json_value.specs.Steps.{tree_or_null}

-- no two members have the same key
abbrev pub has_unique_keys : Pairs → Bool
has_unique_keys no_pairs = true
has_unique_keys (pair_and k t ps) = not (has_key k ps) && has_unique_keys ps

abbrev pub is_object : Tree → Bool
is_object (pairs ps) = true
is_object _ = false

-- a value is there and is the same as the tree
abbrev pub is_same_as : Option Tree → Tree → Bool
is_same_as None u = false
is_same_as (Some t) u = same t u

-- members of a patch: null for each key of the second members that the first lack
abbrev pub removals : Pairs → Pairs → List (List ℕ × Tree)
removals qs no_pairs = []
removals qs (pair_and k t ps) = cond (has_key k qs) (removals qs ps) ((k, null) ∷ removals qs ps)

-- the one members and then the other, if both are there
abbrev pub appended : Option (List (List ℕ × Tree)) → Option (List (List ℕ × Tree)) → Option (List (List ℕ × Tree))
appended (Some rs) (Some ss) = Some (rs ++ ss)
appended _ _ = None

-- members of a patch for one key, given the old value, the new one and the patch between them: none
-- if the two are the same; null cannot be made
abbrev pub merge_change : List ℕ → Option Tree → Tree → Option Tree → Option (List (List ℕ × Tree))
merge_change k old new p = cond (is_same_as old new) (Some []) (cond (is_null new) None (option_map (λ x. (k, x) ∷ []) p))

-- the patch that makes the second members of the first, given the changes; there is none if a key
-- repeats in either
abbrev pub object_patch : Pairs → Pairs → Option (List (List ℕ × Tree)) → Option Tree
object_patch ps qs cs = cond (has_unique_keys ps && has_unique_keys qs) (option_map (λ rs. pairs (list_pairs (removals qs ps ++ rs))) cs) None

abbrev mutual
  -- the patch between two trees that differ
  pub differing_patch : Tree → Tree → Option Tree
  differing_patch t null = Some null
  differing_patch t (boolean b) = Some (boolean b)
  differing_patch t (num l) = Some (num l)
  differing_patch t (text s) = Some (text s)
  differing_patch t (list us) = Some (list us)
  differing_patch t (pairs qs) = object_patch (members_or_none t) qs (changes (members_or_none t) qs)

  -- members of a patch: the changes of the first members that the second need
  pub changes : Pairs → Pairs → Option (List (List ℕ × Tree))
  changes ps no_pairs = Some []
  changes ps (pair_and k v qs) = appended (merge_change k (first_value k ps) v (differing_patch (tree_or_null (first_value k ps)) v)) (changes ps qs)

-- the patch from a tree to another; between two objects that are the same it is the empty object
abbrev pub merge_patch_between : Tree → Tree → Option Tree
merge_patch_between t u = cond (is_object t && same t u) (Some (pairs no_pairs)) (differing_patch t u)

-- ---- laws

-- the patch leads from the one tree to the other
abbrev pub MergePatchLeads : Type 0
MergePatchLeads = (t u p : Tree) → merge_patch_between t u ≡ Some p → same (merge_patched t p) u ≡ true

-- between objects that are the same the patch is the empty object
abbrev pub MergePatchOfSame : Type 0
MergePatchOfSame = (ps qs : Pairs) → same (pairs ps) (pairs qs) ≡ true → merge_patch_between (pairs ps) (pairs qs) ≡ Some (pairs no_pairs)

-- no member of an object is null, nor is a member of an object nested in it by objects
abbrev mutual
  pub HasNoNullMember : Tree → Type 0
  HasNoNullMember null = Unit {0}
  HasNoNullMember (boolean b) = Unit {0}
  HasNoNullMember (num l) = Unit {0}
  HasNoNullMember (text s) = Unit {0}
  HasNoNullMember (list ts) = Unit {0}
  HasNoNullMember (pairs ps) = AreNoNullMembers ps

  pub AreNoNullMembers : Pairs → Type 0
  AreNoNullMembers no_pairs = Unit {0}
  AreNoNullMembers (pair_and k v ps) = (is_null v ≡ false) × HasNoNullMember v × AreNoNullMembers ps

-- a patch is missing only if a key repeats, or a member of the second tree is null
abbrev pub MergePatchExists : Type 0
MergePatchExists =
    (t u : Tree) → HasNoRepeatedKeys t → HasNoRepeatedKeys u → HasNoNullMember u → (p : Tree) × (merge_patch_between t u ≡ Some p)
