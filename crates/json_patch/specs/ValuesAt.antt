-- The value at a path of a tree.
use Rattle.std.specs.Prelude.{List, [], ◌∷◌, Ok, Err, ok_or, slice_get}
use Rattle.json_grammar.specs.Tree.{Tree, list, pairs, trees_list}
use Rattle.json_model.specs.Edit.{Step, key_step, index_step, Changed, not_found, type_unmatched, and_then}
use Rattle.json_model.specs.Same.{first_value}

-- the first value of a key, or the element at an index
abbrev pub value_at_step : Step → Tree → Changed Tree
value_at_step (key_step k) (pairs ps) = ok_or (first_value k ps) not_found
value_at_step (index_step i) (list ts) = ok_or (slice_get (trees_list ts) i) not_found
value_at_step _ _ = Err type_unmatched

-- the tree at a path, or why there is none
abbrev pub value_at_path : List Step → Tree → Changed Tree
value_at_path [] t = Ok t
value_at_path (s ∷ p) t = and_then (value_at_step s t) (value_at_path p)
