-- Where a path leads in a tree, and when two paths part.
use Rattle.std.specs.Prelude.{◌≡◌, ◌≢◌, List, [], ◌∷◌, ◌++◌, Option, Some, None, slice_get, option_and_then}
use Rattle.json_grammar.specs.Tree.{Tree, list, pairs, trees_list}
use Rattle.json_model.specs.Sort.{values_of}
use Rattle.json_model.specs.Edit.{Step, key_step, index_step, Edit, set_at, insert_at, push_at, remove_at}

-- the first value of a key in an object, or the element of an index in an array, counted from 0
abbrev pub part_of : Step → Tree → Option Tree
part_of (key_step k) (pairs ps) = slice_get (values_of k ps) 0
part_of (index_step i) (list ts) = slice_get (trees_list ts) i
part_of _ _ = None

-- the tree to which a path leads
abbrev pub part_at : List Step → Tree → Option Tree
part_at [] t = Some t
part_at (s ∷ p) t = option_and_then (part_at p) (part_of s t)

-- the paths go the same steps up to one at which they differ
pub record PathsDiverge (p q : List Step) : Type 0 where
  pub common : List Step
  pub step : Step
  pub other : Step
  pub rest : List Step
  pub other_rest : List Step
  pub p_is : p ≡ common ++ step ∷ rest
  pub q_is : q ≡ common ++ other ∷ other_rest
  pub apart : step ≢ other

-- the path of an edit
abbrev pub path_of : Edit → List Step
path_of (set_at p u) = p
path_of (insert_at p k u) = p
path_of (push_at p u) = p
path_of (remove_at p s) = p
