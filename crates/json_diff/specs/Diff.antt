-- The JSON Patch (RFC 6902) that leads from one tree to another.
use Rattle.std.specs.Prelude.{◌≡◌, ℕ, zero, suc, ◌+◌, ◌-◌, ◌≤◌, List, [], ◌∷◌, ◌++◌, length, map, take, reverse, Bool, true, false, cond, ◌&&◌, nat_lt, Option, None, Some, Ok, decimal}
use Rattle.json_grammar.specs.Sizes.{nodes}
use Rattle.json_grammar.specs.Tree.{Tree, null, boolean, num, text, list, pairs, Trees, no_trees, tree_and, trees_list, Pairs, no_pairs, pair_and}
use Rattle.json_model.specs.Edit.{has_key}
use Rattle.json_model.specs.Same.{first_value, same}
use Rattle.json_patch.specs.Pointer.{ReferenceToken}
use Rattle.json_patch.specs.Patch.{Operation, add_at, remove, replace, move, copy, test, applied_from}
use Rattle.json_patch.specs.Merge.{members_or_none}
use Rattle.json_diff.specs.MergeDiff.{has_unique_keys, is_object}
use Rattle.json_value.specs.Steps.{tree_or_null}

-- the operation on the value that the token references
abbrev pub under : ReferenceToken → Operation → Operation
under k (add_at p u) = add_at (k ∷ p) u
under k (remove p) = remove (k ∷ p)
under k (replace p u) = replace (k ∷ p) u
under k (move q p) = move (k ∷ q) (k ∷ p)
under k (copy q p) = copy (k ∷ q) (k ∷ p)
under k (test p u) = test (k ∷ p) u

-- the whole replaced, unless the two are the same
abbrev pub whole : Tree → Tree → List Operation
whole t u = cond (same t u) [] (replace [] u ∷ [])

-- ---- members

-- each key removed that the first members lack
abbrev pub key_removals : Pairs → Pairs → List Operation
key_removals qs no_pairs = []
key_removals qs (pair_and k t ps) = cond (has_key k qs) (key_removals qs ps) (remove (k ∷ []) ∷ key_removals qs ps)

-- a new value is added under the key; an old one is led to it by the operations
abbrev pub member_operations : List ℕ → Option Tree → Tree → List Operation → List Operation
member_operations k None u os = add_at (k ∷ []) u ∷ []
member_operations k (Some t) u os = map (under k) os

-- ---- elements

abbrev pub is_array : Tree → Bool
is_array (list ts) = true
is_array _ = false

abbrev pub array_elements : Tree → List Tree
array_elements (list ts) = trees_list ts
array_elements _ = []

-- how many first elements are the same
abbrev pub common_front : List Tree → List Tree → ℕ
common_front [] us = 0
common_front (t ∷ ts) [] = 0
common_front (t ∷ ts) (u ∷ us) = cond (same t u) (suc (common_front ts us)) 0

-- how many last elements are the same
abbrev pub common_back : List Tree → List Tree → ℕ
common_back ts us = common_front (reverse ts) (reverse us)

-- the elements from the index on removed
abbrev pub element_removals : ℕ → List Tree → List Operation
element_removals i [] = []
element_removals i (t ∷ ts) = remove (decimal i ∷ []) ∷ element_removals i ts

-- an array that no pointer can address is replaced
abbrev pub are_addressable : List Tree → List Tree → Bool
are_addressable ts us = nat_lt (length ts) 18446744073709551616 && nat_lt (length us) 18446744073709551616

abbrev mutual
  -- the operations that lead from the first tree to the second: nothing if they are the same
  pub operations_between : Tree → Tree → List Operation
  operations_between t null = whole t null
  operations_between t (boolean b) = whole t (boolean b)
  operations_between t (num l) = whole t (num l)
  operations_between t (text s) = whole t (text s)
  operations_between t (list us) =
      let n = common_back (array_elements t) (trees_list us) in
      cond (is_array t && are_addressable (array_elements t) (trees_list us))
      (element_operations 0 (take (length (array_elements t) - n) (array_elements t)) (length (trees_list us) - n) us)
      (whole t (list us))
  operations_between t (pairs qs) =
      cond (is_object t && (has_unique_keys (members_or_none t) && has_unique_keys qs))
      (key_removals qs (members_or_none t) ++ members_operations (members_or_none t) qs)
      (whole t (pairs qs))

  -- each member of the second object made of the first value of its key
  pub members_operations : Pairs → Pairs → List Operation
  members_operations ps no_pairs = []
  members_operations ps (pair_and k v qs) = member_operations k (first_value k ps) v (operations_between (tree_or_null (first_value k ps)) v) ++ members_operations ps qs

  -- the elements, of which the first has the index i, led to the m first of the others; then the
  -- others are added, or what is left is removed
  pub element_operations : ℕ → List Tree → ℕ → Trees → List Operation
  element_operations i ts m no_trees = element_removals i ts
  element_operations i ts zero (tree_and u us) = element_removals i ts
  element_operations i [] (suc m) (tree_and u us) = add_at (decimal i ∷ []) u ∷ element_operations (suc i) [] m us
  element_operations i (t ∷ ts) (suc m) (tree_and u us) = map (under (decimal i)) (operations_between t u) ++ element_operations (suc i) ts m us

-- ---- laws

-- the operations make a tree that is the same as the second
abbrev pub OperationsMakeSame : List Operation → Tree → Tree → Type 0
OperationsMakeSame os t u = (w : Tree) × (applied_from 0 os t ≡ Ok w) × (same w u ≡ true)

abbrev pub OperationsLead : Type 0
OperationsLead = (t u : Tree) → OperationsMakeSame (operations_between t u) t u

-- there are none exactly if the trees are the same
abbrev pub NoOperationsBetweenSame : Type 0
NoOperationsBetweenSame = (t u : Tree) → same t u ≡ true → operations_between t u ≡ []

-- there are at most as many as the two trees have values and names
abbrev pub FewOperations : Type 0
FewOperations = (t u : Tree) → length (operations_between t u) ≤ nodes t + nodes u
