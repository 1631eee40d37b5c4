-- Laws on what is read.
use Rattle.std.specs.Prelude.{◌≡◌, List}
use Rattle.json_grammar.specs.Tree.{Tree}
use Rattle.json_model.specs.Edit.{Step, Edit}
use Rattle.json_data.specs.ReadingValues.{value_datum, path_datum, edit_datum}

-- trees with the same datum are the same tree
abbrev pub SameDatum : Type 0
SameDatum = (t u : Tree) → value_datum t ≡ value_datum u → t ≡ u

-- so paths
abbrev pub SamePath : Type 0
SamePath = (p q : List Step) → path_datum p ≡ path_datum q → p ≡ q

-- so edits
abbrev pub SameEdit : Type 0
SameEdit = (e f : Edit) → edit_datum e ≡ edit_datum f → e ≡ f
