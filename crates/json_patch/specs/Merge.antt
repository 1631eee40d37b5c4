-- JSON Merge Patch (RFC 7396): what a merge patch makes of a tree.
use Rattle.std.specs.Prelude.{ℕ, List, Bool, true, false, cond}
use Rattle.json_grammar.specs.Tree.{Tree, null, boolean, num, text, list, pairs, Pairs, no_pairs, pair_and}
use Rattle.json_model.specs.Edit.{inserted, without_key}
use Rattle.json_model.specs.Same.{first_value}
use Rattle.json_value.specs.Steps.{tree_or_null}

-- the members of an object; none of any other tree
abbrev pub members_or_none : Tree → Pairs
members_or_none (pairs ps) = ps
members_or_none _ = no_pairs

abbrev pub is_null : Tree → Bool
is_null null = true
is_null _ = false

abbrev mutual
  -- section 2: a patch that is no object replaces the tree; an object merges its members into the
  -- tree's
  pub merge_patched : Tree → Tree → Tree
  merge_patched t null = null
  merge_patched t (boolean b) = boolean b
  merge_patched t (num l) = num l
  merge_patched t (text s) = text s
  merge_patched t (list ts) = list ts
  merge_patched t (pairs qs) = pairs (pairs_merged (members_or_none t) qs)

  -- in turn: null removes all members of the key; any other value is merged into the first value of
  -- the key,
  -- or into null, and inserted
  pub pairs_merged : Pairs → Pairs → Pairs
  pairs_merged ps no_pairs = ps
  pairs_merged ps (pair_and k v qs) = pairs_merged (cond (is_null v) (without_key k ps) (inserted k (merge_patched (tree_or_null (first_value k ps)) v) ps)) qs

-- what one member of a patch makes of members
abbrev pub member_merged : List ℕ → Tree → Pairs → Pairs
member_merged k v ps = cond (is_null v) (without_key k ps) (inserted k (merge_patched (tree_or_null (first_value k ps)) v) ps)
