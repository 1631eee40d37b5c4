-- Sorted where asked.
use Rattle.std.proofs.Common.{◌≡◌, refl, ap, ap₂, Bool, true, false, cond}
use Rattle.json_grammar.specs.Tree.{Tree, null, boolean, num, text, list, pairs, Trees, no_trees, tree_and, Pairs, no_pairs, pair_and}
use Rattle.json_model.specs.Sort.{pair_in, sorted, trees_sorted, pairs_sorted}

-- sorted where asked
abbrev mutual
  pub as_asked : Bool → Tree → Tree
  as_asked b null = null
  as_asked b (boolean v) = boolean v
  as_asked b (num l) = num l
  as_asked b (text s) = text s
  as_asked b (list ts) = list (trees_as_asked b ts)
  as_asked b (pairs ps) = pairs (pairs_as_asked b ps)

  pub trees_as_asked : Bool → Trees → Trees
  trees_as_asked b no_trees = no_trees
  trees_as_asked b (tree_and t ts) = tree_and (as_asked b t) (trees_as_asked b ts)

  pub pairs_as_asked : Bool → Pairs → Pairs
  pairs_as_asked b no_pairs = no_pairs
  pairs_as_asked b (pair_and k t ps) = cond b (pair_in k (as_asked b t) (pairs_as_asked b ps)) (pair_and k (as_asked b t) (pairs_as_asked b ps))

mutual
  pub asked_sorted : (t : Tree) → as_asked true t ≡ sorted t
  asked_sorted null = refl
  asked_sorted (boolean b) = refl
  asked_sorted (num l) = refl
  asked_sorted (text s) = refl
  asked_sorted (list ts) = ap list (trees_asked_sorted ts)
  asked_sorted (pairs ps) = ap pairs (pairs_asked_sorted ps)

  trees_asked_sorted : (ts : Trees) → trees_as_asked true ts ≡ trees_sorted ts
  trees_asked_sorted no_trees = refl
  trees_asked_sorted (tree_and t ts) = ap₂ tree_and (asked_sorted t) (trees_asked_sorted ts)

  pairs_asked_sorted : (ps : Pairs) → pairs_as_asked true ps ≡ pairs_sorted ps
  pairs_asked_sorted no_pairs = refl
  pairs_asked_sorted (pair_and k t ps) = ap₂ (λ x y. pair_in k x y) (asked_sorted t) (pairs_asked_sorted ps)

mutual
  pub asked_same : (t : Tree) → as_asked false t ≡ t
  asked_same null = refl
  asked_same (boolean b) = refl
  asked_same (num l) = refl
  asked_same (text s) = refl
  asked_same (list ts) = ap list (trees_asked_same ts)
  asked_same (pairs ps) = ap pairs (pairs_asked_same ps)

  trees_asked_same : (ts : Trees) → trees_as_asked false ts ≡ ts
  trees_asked_same no_trees = refl
  trees_asked_same (tree_and t ts) = ap₂ tree_and (asked_same t) (trees_asked_same ts)

  pairs_asked_same : (ps : Pairs) → pairs_as_asked false ps ≡ ps
  pairs_asked_same no_pairs = refl
  pairs_asked_same (pair_and k t ps) = ap₂ (λ x y. pair_and k x y) (asked_same t) (pairs_asked_same ps)

pub asked : (b : Bool) (t : Tree) → as_asked b t ≡ cond b (sorted t) t
asked true t = asked_sorted t
asked false t = asked_same t
