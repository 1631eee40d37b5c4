-- What the readers of values, paths and edits answer of a tree.
use Rattle.std.specs.Prelude.{pos, List, [], ◌∷◌, Option, Some, None, codes}
use Rattle.json_grammar.specs.Tree.{Tree, null, boolean, num, text, list, pairs, Trees, no_trees, tree_and, Pairs, no_pairs, pair_and}
use Rattle.json_model.specs.Datum.{Datum, null_datum, boolean_datum, integer_datum, text_datum, literal_datum, list_datum, rows_datum, Data, no_data, datum_and, Rows, no_rows, row_and}
use Rattle.json_model.specs.Edit.{Step, key_step, index_step, Edit, set_at, insert_at, push_at, remove_at}
use Rattle.json_io.specs.declared.error.ErrorCode.TheVariants.{TypeUnmatched}
use Rattle.json_value.specs.EditTrees.{path_in, edit_in}
use Rattle.json_data.specs.Reading.{Reading, gives, refuses}

abbrev mutual
  -- what a tree means, each number by its literal
  pub value_datum : Tree → Datum
  value_datum null = null_datum
  value_datum (boolean b) = boolean_datum b
  value_datum (num l) = literal_datum l
  value_datum (text s) = text_datum s
  value_datum (list ts) = list_datum (trees_data ts)
  value_datum (pairs ps) = rows_datum (pairs_rows ps)

  pub trees_data : Trees → Data
  trees_data no_trees = no_data
  trees_data (tree_and t ts) = datum_and (value_datum t) (trees_data ts)

  pub pairs_rows : Pairs → Rows
  pairs_rows no_pairs = no_rows
  pairs_rows (pair_and k t ps) = row_and (text_datum k) (value_datum t) (pairs_rows ps)

abbrev pub read_value : Tree → Reading
read_value t = gives (value_datum t)

abbrev pub read_array : Tree → Reading
read_array (list ts) = read_value (list ts)
read_array _ = refuses TypeUnmatched

abbrev pub read_object_value : Tree → Reading
read_object_value (pairs ps) = read_value (pairs ps)
read_object_value _ = refuses TypeUnmatched

-- ---- paths and edits, in the form in which trees spell them

abbrev pub step_datum : Step → Datum
step_datum (key_step s) = text_datum s
step_datum (index_step i) = integer_datum (pos i)

abbrev pub steps_data : List Step → Data
steps_data [] = no_data
steps_data (s ∷ p) = datum_and (step_datum s) (steps_data p)

abbrev pub path_datum : List Step → Datum
path_datum p = list_datum (steps_data p)

abbrev pub edit_datum : Edit → Datum
edit_datum (set_at p u) = list_datum (datum_and (text_datum (codes "set")) (datum_and (path_datum p) (datum_and (value_datum u) no_data)))
edit_datum (insert_at p k u) = list_datum (datum_and (text_datum (codes "insert")) (datum_and (path_datum p) (datum_and (text_datum k) (datum_and (value_datum u) no_data))))
edit_datum (push_at p u) = list_datum (datum_and (text_datum (codes "push")) (datum_and (path_datum p) (datum_and (value_datum u) no_data)))
edit_datum (remove_at p s) = list_datum (datum_and (text_datum (codes "remove")) (datum_and (path_datum p) (datum_and (step_datum s) no_data)))

-- what is spelled, or a refusal where nothing is
abbrev pub spelled : {A : Type 0} → (A → Datum) → Option A → Reading
spelled f (Some x) = gives (f x)
spelled f None = refuses TypeUnmatched

abbrev pub read_path : Tree → Reading
read_path t = spelled path_datum (path_in t)

abbrev pub read_edit : Tree → Reading
read_edit t = spelled edit_datum (edit_in t)
