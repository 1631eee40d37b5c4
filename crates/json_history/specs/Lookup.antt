-- The value at a path of a tree (paths as those of edits).
use Rattle.std.specs.Prelude.{List, [], ◌∷◌, Ok, Err, ok_or, slice_get}
use Rattle.json_grammar.specs.Tree.{Tree, list, pairs, trees_list}
use Rattle.json_model.specs.Edit.{Step, key_step, index_step, Changed, not_found, type_unmatched, and_then}
use Rattle.json_model.specs.Same.{first_value}

-- the first value of a key, or the element of an index
abbrev pub lookup_step : Step → Tree → Changed Tree
lookup_step (key_step k) (pairs ps) = ok_or (first_value k ps) not_found
lookup_step (index_step i) (list ts) = ok_or (slice_get (trees_list ts) i) not_found
lookup_step _ _ = Err type_unmatched

-- the value at the end of a path, or why there is none
abbrev pub lookup : List Step → Tree → Changed Tree
lookup [] t = Ok t
lookup (s ∷ p) t = and_then (lookup_step s t) (lookup p)
