-- A tree in which no key repeats: of each object every key once, at its first place, with its last value.
use Rattle.std.specs.Prelude.{ℕ, List, [], ◌∷◌, cond, bytes_eq}
use Rattle.json_grammar.specs.Tree.{Tree, null, boolean, num, text, list, pairs, Trees, no_trees, tree_and, Pairs, no_pairs, pair_and}
use Rattle.json_model.specs.Edit.{inserted, without_key}

-- the value of the first member of the key, or t
abbrev pub value_or : List ℕ → Tree → Pairs → Tree
value_or k t no_pairs = t
value_or k t (pair_and n u ps) = cond (bytes_eq n k) u (value_or k t ps)

-- each of these is inserted, from the first on
abbrev pub inserted_all : List (List ℕ × Tree) → Pairs → Pairs
inserted_all [] ps = ps
inserted_all (q ∷ qs) ps = inserted_all qs (inserted q.0 q.1 ps)

-- each key once, at its first place, with its last value
abbrev pub once : Pairs → Pairs
once no_pairs = no_pairs
once (pair_and k t ps) = pair_and k (value_or k t (once ps)) (without_key k (once ps))

abbrev mutual
  -- so at every object
  pub merged : Tree → Tree
  merged null = null
  merged (boolean b) = boolean b
  merged (num l) = num l
  merged (text s) = text s
  merged (list ts) = list (trees_merged ts)
  merged (pairs ps) = pairs (once (values_merged ps))

  pub trees_merged : Trees → Trees
  trees_merged no_trees = no_trees
  trees_merged (tree_and t ts) = tree_and (merged t) (trees_merged ts)

  -- the members, their values merged
  pub values_merged : Pairs → Pairs
  values_merged no_pairs = no_pairs
  values_merged (pair_and k t ps) = pair_and k (merged t) (values_merged ps)
