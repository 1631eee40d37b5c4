-- How many operations lead from one tree to another.
use Rattle.std.proofs.Common.{◌≡◌, ℕ, zero, suc, ◌+◌, ◌-◌, ◌≤◌, List, [], ◌∷◌, ◌++◌, length, map, take, Bool, true, false, cond, ◌&&◌, Option, Some, None, refl, ap, ◌∙◌, bytes_eq, arith}
use Rattle.std.specs.Prelude.{decimal}
use Rattle.std.proofs.lemmas.Bool.{and_parts}
use Rattle.std.proofs.lemmas.List.{length-append, length-map}
use Rattle.json_grammar.specs.Sizes.{nodes, trees_nodes, pairs_nodes}
use Rattle.json_grammar.specs.Tree.{Tree, null, boolean, num, text, list, pairs, Trees, no_trees, tree_and, trees_list, list_trees, Pairs, no_pairs, pair_and}
use Rattle.json_model.specs.Edit.{has_key}
use Rattle.json_model.specs.Same.{first_value, same}
use Rattle.json_model.proofs.Members.{same_key}
use Rattle.json_value.specs.Steps.{tree_or_null}
use Rattle.json_patch.specs.Merge.{members_or_none}
use Rattle.json_patch.specs.Patch.{Operation, remove, replace}
use Rattle.json_diff.specs.MergeDiff.{has_unique_keys, is_object}
use Rattle.json_diff.specs.Diff.{under, whole, key_removals, member_operations, is_array, array_elements, common_back, element_removals, are_addressable, operations_between, members_operations, element_operations, FewOperations}
use Rattle.json_diff.proofs.UniqueKeys.{true_false, keys_turned, unique_parts}

-- ---- nodes

some_nodes : (t : Tree) → 1 ≤ nodes t
some_nodes null = omega arith
some_nodes (boolean b) = omega arith
some_nodes (num l) = omega arith
some_nodes (text s) = omega arith
some_nodes (list ts) = omega arith
some_nodes (pairs ps) = omega arith

elements_nodes : (ts : Trees) → trees_nodes (list_trees (trees_list ts)) ≡ trees_nodes ts
elements_nodes no_trees = refl
elements_nodes (tree_and t ts) = ap (λ n. nodes t + n) (elements_nodes ts)

array_nodes : (t : Tree) → trees_nodes (list_trees (array_elements t)) ≤ nodes t
array_nodes (list ts) = omega (arith, elements_nodes ts)
array_nodes null = omega arith
array_nodes (boolean b) = omega arith
array_nodes (num l) = omega arith
array_nodes (text s) = omega arith
array_nodes (pairs ps) = omega arith

object_nodes : (t : Tree) → pairs_nodes (members_or_none t) ≤ nodes t
object_nodes (pairs ps) = omega arith
object_nodes null = omega arith
object_nodes (boolean b) = omega arith
object_nodes (num l) = omega arith
object_nodes (text s) = omega arith
object_nodes (list ts) = omega arith

taken_nodes : (n : ℕ) (ts : List Tree) → trees_nodes (list_trees (take n ts)) ≤ trees_nodes (list_trees ts)
taken_nodes n [] = by n
  where
    by : (m : ℕ) → trees_nodes (list_trees (take m [])) ≤ 0
    by zero = omega arith
    by (suc m) = omega arith
taken_nodes zero (t ∷ ts) = omega arith
taken_nodes (suc n) (t ∷ ts) = omega (arith, taken_nodes n ts)

-- of the value of a key, if there is one
abbrev pub option_nodes : Option Tree → ℕ
option_nodes None = 0
option_nodes (Some t) = nodes t

-- of the first values, at the keys of the second members
abbrev pub old_nodes : Pairs → Pairs → ℕ
old_nodes ps no_pairs = 0
old_nodes ps (pair_and k v qs) = option_nodes (first_value k ps) + old_nodes ps qs

no_old_nodes : (qs : Pairs) → old_nodes no_pairs qs ≡ 0
no_old_nodes no_pairs = refl
no_old_nodes (pair_and k v qs) = omega (arith, no_old_nodes qs)

-- a member more among the first, whose key no second one has
old_nodes_beside : (k : List ℕ) (t : Tree) (ps qs : Pairs) → has_key k qs ≡ false → old_nodes (pair_and k t ps) qs ≡ old_nodes ps qs
old_nodes_beside k t ps no_pairs h = refl
old_nodes_beside k t ps (pair_and n v qs) h = by (bytes_eq n k) refl h (old_nodes_beside k t ps qs)
  where
    by : (b : Bool) → bytes_eq n k ≡ b → cond b true (has_key k qs) ≡ false → (has_key k qs ≡ false → old_nodes (pair_and k t ps) qs ≡ old_nodes ps qs) → old_nodes (pair_and k t ps) (pair_and n v qs) ≡ old_nodes ps (pair_and n v qs)
    by true e g i = absurd (true_false g)
    by false e g i =
        ap (λ b. option_nodes (cond b (Some t) (first_value n ps)) + old_nodes (pair_and k t ps) qs) (keys_turned n k e) ∙ ap (λ m. option_nodes (first_value n ps) + m) (i g)

-- a member more among the first
old_nodes_more : (k : List ℕ) (t : Tree) (ps qs : Pairs) → has_unique_keys qs ≡ true → old_nodes (pair_and k t ps) qs ≤ nodes t + old_nodes ps qs
old_nodes_more k t ps no_pairs h = omega arith
old_nodes_more k t ps (pair_and n v qs) h = by (bytes_eq k n) refl (unique_parts n v qs h) (old_nodes_more k t ps qs)
  where
    by : (b : Bool) → bytes_eq k n ≡ b → (has_key n qs ≡ false) × (has_unique_keys qs ≡ true) → (has_unique_keys qs ≡ true → old_nodes (pair_and k t ps) qs ≤ nodes t + old_nodes ps qs)
        → option_nodes (cond b (Some t) (first_value n ps)) + old_nodes (pair_and k t ps) qs ≤ nodes t + (option_nodes (first_value n ps) + old_nodes ps qs)
    by true e a i = omega (arith, old_nodes_beside k t ps qs (ap (λ m. has_key m qs) (same_key k n e) ∙ a.0))
    by false e a i = omega (arith, i a.1)

-- ---- operations

whole_few : (t u : Tree) → length (whole t u) ≤ nodes t + nodes u
whole_few t u = by (same t u)
  where
    by : (b : Bool) → length (cond b [] (replace [] u ∷ [])) ≤ nodes t + nodes u
    by true = omega arith
    by false = omega (arith, some_nodes t)

either_few : (n : ℕ) (b : Bool) (os ps : List Operation) → (b ≡ true → length os ≤ n) → length ps ≤ n → length (cond b os ps) ≤ n
either_few n true os ps h g = h refl
either_few n false os ps h g = g

removals_few : (i : ℕ) (ts : List Tree) → length (element_removals i ts) ≤ trees_nodes (list_trees ts)
removals_few i [] = omega arith
removals_few i (t ∷ ts) = omega (arith, some_nodes t, removals_few i ts)

member_few : (k : List ℕ) (o : Option Tree) (v : Tree) (os : List Operation) → length os ≤ nodes (tree_or_null o) + nodes v → length (member_operations k o v os) ≤ option_nodes o + suc (nodes v)
member_few k None v os h = omega arith
member_few k (Some t) v os h = omega (arith, h, length-map os (under k))

keys_few : (ps qs : Pairs) → has_unique_keys qs ≡ true → length (key_removals qs ps) + old_nodes ps qs ≤ pairs_nodes ps
keys_few no_pairs qs h = omega (arith, no_old_nodes qs)
keys_few (pair_and k t ps) qs h = by (has_key k qs) refl (keys_few ps qs h)
  where
    by : (b : Bool) → has_key k qs ≡ b → length (key_removals qs ps) + old_nodes ps qs ≤ pairs_nodes ps
        → length (cond b (key_removals qs ps) (remove (k ∷ []) ∷ key_removals qs ps)) + old_nodes (pair_and k t ps) qs ≤ suc (nodes t + pairs_nodes ps)
    by true e i = omega (arith, i, old_nodes_more k t ps qs h)
    by false e i = omega (arith, i, old_nodes_beside k t ps qs e)

object_few : (t : Tree) (qs : Pairs) → length (members_operations (members_or_none t) qs) ≤ old_nodes (members_or_none t) qs + pairs_nodes qs
    → (is_object t && (has_unique_keys (members_or_none t) && has_unique_keys qs)) ≡ true → length (key_removals qs (members_or_none t) ++ members_operations (members_or_none t) qs) ≤ nodes t + suc (pairs_nodes qs)
object_few t qs few keyed =
    let unique = and_parts (has_unique_keys (members_or_none t)) (has_unique_keys qs) (and_parts (is_object t) (has_unique_keys (members_or_none t) && has_unique_keys qs) keyed).1 in
    omega (arith, few, length-append (key_removals qs (members_or_none t)) (members_operations (members_or_none t) qs), keys_few (members_or_none t) qs unique.1, object_nodes t)

array_few : (t : Tree) (n m : ℕ) (us : Trees) → length (element_operations 0 (take n (array_elements t)) m us) ≤ trees_nodes (list_trees (take n (array_elements t))) + trees_nodes us
    → length (element_operations 0 (take n (array_elements t)) m us) ≤ nodes t + suc (trees_nodes us)
array_few t n m us few = omega (arith, few, taken_nodes n (array_elements t), array_nodes t)

mutual
  few : (t u : Tree) → length (operations_between t u) ≤ nodes t + nodes u
  few t null = whole_few t null
  few t (boolean b) = whole_few t (boolean b)
  few t (num l) = whole_few t (num l)
  few t (text s) = whole_few t (text s)
  few t (list us) =
      let n : ℕ = common_back (array_elements t) (trees_list us) in
      let m : ℕ = length (trees_list us) - n in
      let k : ℕ = length (array_elements t) - n in
      either_few _ (is_array t && are_addressable (array_elements t) (trees_list us)) (element_operations 0 (take k (array_elements t)) m us) (whole t (list us))
      (λ _. array_few t k m us (elements_few 0 (take k (array_elements t)) m us)) (whole_few t (list us))
  few t (pairs qs) =
      either_few _ (is_object t && (has_unique_keys (members_or_none t) && has_unique_keys qs)) (key_removals qs (members_or_none t) ++ members_operations (members_or_none t) qs) (whole t (pairs qs))
      (object_few t qs (members_few (members_or_none t) qs)) (whole_few t (pairs qs))

  members_few : (ps qs : Pairs) → length (members_operations ps qs) ≤ old_nodes ps qs + pairs_nodes qs
  members_few ps no_pairs = omega arith
  members_few ps (pair_and k v qs) =
      let os : List Operation = operations_between (tree_or_null (first_value k ps)) v in
      omega (
        arith,
        length-append (member_operations k (first_value k ps) v os) (members_operations ps qs),
        member_few k (first_value k ps) v os (few (tree_or_null (first_value k ps)) v),
        members_few ps qs,
      )

  elements_few : (i : ℕ) (ts : List Tree) (m : ℕ) (us : Trees) → length (element_operations i ts m us) ≤ trees_nodes (list_trees ts) + trees_nodes us
  elements_few i ts m no_trees = omega (arith, removals_few i ts)
  elements_few i ts zero (tree_and u us) = omega (arith, removals_few i ts)
  elements_few i [] (suc m) (tree_and u us) = omega (arith, elements_few (suc i) [] m us, some_nodes u)
  elements_few i (t ∷ ts) (suc m) (tree_and u us) =
      omega (
        arith,
        length-append (map (under (decimal i)) (operations_between t u)) (element_operations (suc i) ts m us),
        length-map (operations_between t u) (under (decimal i)),
        few t u,
        elements_few (suc i) ts m us,
      )

pub few_operations : FewOperations
few_operations t u = few t u
