-- The command that a table represents.
use Rattle.std.specs.Prelude.{◌≡◌, ℕ, List, [], ◌∷◌, Bool, true, false, Option, Some, None, map, option_map, string_bytes}
use Rattle.json_grammar.specs.Grammar.{boolean_bytes}
use Rattle.json_model.specs.Print.{quoted}
use Rattle.json_value.specs.Edits.{path_steps}
use Rattle.json_lines.specs.Cells as cell
use Rattle.json_lines.specs.Cells.{LinesCommand, dash, separator}
use Rattle.json_lines.specs.Words.{HoldsWords, has_in, is_strict, is_csv}
use Rattle.json_lines.specs.declared.table.ColumnKind.{ColumnKind}
use Rattle.json_lines.specs.declared.table.ColumnKind.TheVariants.{Text, Int, Bool as Truth, Json}
use Rattle.json_lines.specs.declared.table.Column.{Column}
use Rattle.json_lines.specs.declared.table.RowFormat.{RowFormat}
use Rattle.json_lines.specs.declared.table.RowFormat.TheVariants.{Tabbed, Csv}
use Rattle.json_lines.specs.declared.table.Table.{Table}
use Rattle.json_lines.specs.declared.gathered.WordRole.{WordRole}
use Rattle.json_lines.specs.declared.gathered.WordRole.TheVariants.{Has, Strict, CsvRows, ColumnsWord}
use Rattle.json_lines.specs.declared.gathered.GatheredWords.{GatheredWords}

abbrev pub cell_kind : ColumnKind → cell.ColumnKind
cell_kind Text = cell.texts
cell_kind Int = cell.integers
cell_kind Truth = cell.booleans
cell_kind Json = cell.any_json

abbrev pub table_column : Column → cell.Column
table_column c = record { path = path_steps c.path; kind = cell_kind c.kind; name = string_bytes c.name }

abbrev pub row_format : RowFormat → cell.RowFormat
row_format Tabbed = cell.tabbed_rows
row_format (Csv alloc) = cell.csv_rows

abbrev pub table_command : Table → LinesCommand
table_command t = record { columns = map table_column t.columns.items; has = path_steps t.has; format = row_format t.format; strict = t.strict }

-- the cell of a string, of the text of an integer, and of a boolean: a dash where there is none
abbrev pub string_cell : Option (List ℕ) → List ℕ
string_cell None = dash
string_cell (Some s) = quoted s

abbrev pub integer_column : Option (List ℕ) → List ℕ
integer_column None = dash
integer_column (Some text) = text

abbrev pub boolean_cell : Option Bool → List ℕ
boolean_cell None = dash
boolean_cell (Some b) = boolean_bytes b

-- the bytes before a cell
abbrev pub cell_separator : ℕ → Bool → List ℕ
cell_separator between true = []
cell_separator between false = between ∷ []

-- ---- the words of the command line

-- what one word is
pub record IsWord (word : List ℕ) (has : Option (List ℕ)) (strict csv : Bool) : Type 0 where
  pub has_is : has_in word ≡ has
  pub strict_is : is_strict word ≡ strict
  pub csv_is : is_csv word ≡ csv

abbrev pub HasRole : List ℕ → WordRole → Type 0
HasRole word (Has text) = IsWord word (Some text.now) false false
HasRole word Strict = IsWord word None true false
HasRole word CsvRows = IsWord word None false true
HasRole word (ColumnsWord text) = IsWord word None false false × (text.now ≡ word)

-- the words hold what was gathered
abbrev pub Gathered : List (List ℕ) → GatheredWords → Type 0
Gathered words g = HoldsWords words (option_map (λ s. s.now) g.columns) (option_map (λ s. s.now) g.has) g.strict g.csv
