-- What numbers and lists of them are read from.
use Rattle.std.specs.Prelude.{pos, ◌^◌, []}
use Rattle.json_grammar.specs.Tree.{Tree, list, Trees, no_trees, tree_and}
use Rattle.json_model.specs.Datum.{Datum, integer_datum, list_datum, list_data}
use Rattle.json_data.specs.Reading.{Reading, Series, gives_all, prepend_reading, as_list, read_integer, is_between}
use Rattle.test_samples.specs.declared.nested.Nested.{Nested, fold-Nested}
use Rattle.test_samples.specs.declared.nested.Nested.TheOpen.{Nested-F}

-- what a number or a list means, by what its elements mean
abbrev pub nested_step : Nested-F Datum → Datum
nested_step (Nested-F.Number n) = integer_datum (pos n)
nested_step (Nested-F.List v) = list_datum (list_data v.items)

abbrev pub nested_datum : Nested → Datum
nested_datum = fold-Nested Datum nested_step

-- a list is read element by element, and all else as a number from 0 to 255
abbrev mutual
  pub read_nested : Tree → Reading
  read_nested (list ts) = as_list (each_nested ts)
  read_nested t = read_integer (is_between 0 (2 ^ 8)) t

  pub each_nested : Trees → Series
  each_nested no_trees = gives_all []
  each_nested (tree_and t ts) = prepend_reading (read_nested t) (each_nested ts)
