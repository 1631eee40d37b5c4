-- What a tree means.
use Rattle.std.specs.Prelude.{ℕ, ℤ, List, Option, Some, None}
use Rattle.json_grammar.specs.Tree.{Tree, null, boolean, num, text, list, pairs, Trees, no_trees, tree_and, Pairs, no_pairs, pair_and}
use Rattle.json_number.specs.Integers.{integer_in}
use Rattle.json_model.specs.Datum.{Datum, null_datum, boolean_datum, integer_datum, text_datum, literal_datum, list_datum, rows_datum, Data, no_data, datum_and, Rows, no_rows, row_and}

-- a number is its integer, where that lies in i64 or u64, else its literal
abbrev pub number_datum : Option ℤ → List ℕ → Datum
number_datum (Some n) l = integer_datum n
number_datum None l = literal_datum l

abbrev mutual
  pub tree_datum : Tree → Datum
  tree_datum null = null_datum
  tree_datum (boolean b) = boolean_datum b
  tree_datum (num l) = number_datum (integer_in l) l
  tree_datum (text s) = text_datum s
  tree_datum (list ts) = list_datum (tree_list_data ts)
  tree_datum (pairs ps) = rows_datum (tree_member_rows ps)

  pub tree_list_data : Trees → Data
  tree_list_data no_trees = no_data
  tree_list_data (tree_and t ts) = datum_and (tree_datum t) (tree_list_data ts)

  pub tree_member_rows : Pairs → Rows
  tree_member_rows no_pairs = no_rows
  tree_member_rows (pair_and k t ps) = row_and (text_datum k) (tree_datum t) (tree_member_rows ps)
