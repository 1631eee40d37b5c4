-- What the words of the command line ask for.
use Rattle.std.specs.Prelude.{◌≡◌, ℕ, ◌≤◌, List, [], ◌∷◌, length, take, drop, filter, filter_map, Bool, true, false, not, ◌||◌, Option, Some, None, is_some, bytes_eq, cond, codes, option_and_then, option_to_list}
use Rattle.json_grammar.specs.Tree.{Tree, list, trees_list}
use Rattle.json_doc.specs.Readings.{string_of}
use Rattle.json_model.specs.Edit.{Step}
use Rattle.json_model.specs.Print.{shown}
use Rattle.json_text.specs.Ruled.{usual_rules}
use Rattle.json_value.specs.EditTrees.{both, each_in, path_in}
use Rattle.json_command.specs.Input.{IsInput}
use Rattle.json_lines.specs.Cells.{ColumnKind, texts, integers, booleans, any_json, Column, RowFormat, tabbed_rows, csv_rows, LinesCommand}

-- the kind of this name
abbrev pub kind_named : List ℕ → Option ColumnKind
kind_named name =
    cond (bytes_eq name (codes "text")) (Some texts)
    (cond (bytes_eq name (codes "int")) (Some integers)
    (cond (bytes_eq name (codes "bool")) (Some booleans)
    (cond (bytes_eq name (codes "json")) (Some any_json) None)))

abbrev pub kind_in : Tree → Option ColumnKind
kind_in t = option_and_then kind_named (string_of t)

-- a column: [path, kind]; its name is the compact text of the path
abbrev pub column_of_pair : List Tree → Option Column
column_of_pair (path ∷ kind ∷ []) = both (λ p k. record { path = p; kind = k; name = shown None 0 path }) (path_in path) (kind_in kind)
column_of_pair _ = None

abbrev pub column_in : Tree → Option Column
column_in (list ts) = column_of_pair (trees_list ts)
column_in _ = None

abbrev pub columns_in : Tree → Option (List Column)
columns_in (list ts) = each_in column_in (trees_list ts)
columns_in _ = None

-- the word is a text, by the usual rules, of a tree that spells this value
pub record WordSpells {A : Type 0} (reads : Tree → Option A) (word : List ℕ) (spelled : A) : Type 0 where
  pub tree : Tree
  pub input : IsInput usual_rules word tree
  pub so : reads tree ≡ Some spelled

-- the word spells no value
abbrev pub WordSpellsNothing : {A : Type 0} → (Tree → Option A) → List ℕ → Type 0
WordSpellsNothing {A = A} reads word = (x : A) → ¬ (WordSpells reads word x)

-- the word spells no list of 1 to 64 columns
abbrev pub NoColumns : List ℕ → Type 0
NoColumns word = (columns : List Column) → WordSpells columns_in word columns → 1 ≤ length columns → length columns ≤ 64 → ⊥

-- the text after `--has=`
abbrev pub has_in : List ℕ → Option (List ℕ)
has_in word = cond (bytes_eq (take 6 word) (codes "--has=")) (Some (drop 6 word)) None

-- the option by which the first bad line ends the run
abbrev pub is_strict : List ℕ → Bool
is_strict word = bytes_eq word (codes "--strict")

-- the option by which rows are records of CSV
abbrev pub is_csv : List ℕ → Bool
is_csv word = bytes_eq word (codes "--csv")

-- the columns word: any other
abbrev pub is_columns_word : List ℕ → Bool
is_columns_word word = not (is_some (has_in word) || (is_strict word || is_csv word))

-- the words are at most one columns word, at most one text after `--has=`, and the two options that
-- are given, once each
pub record HoldsWords (words : List (List ℕ)) (columns has : Option (List ℕ)) (strict csv : Bool) : Type 0 where
  pub columns_is : filter is_columns_word words ≡ option_to_list columns
  pub has_is : filter_map has_in words ≡ option_to_list has
  pub strict_is : length (filter is_strict words) ≡ cond strict 1 0
  pub csv_is : length (filter is_csv words) ≡ cond csv 1 0

-- the format of rows, with the option `--csv` and without it
abbrev pub format_by : Bool → RowFormat
format_by true = csv_rows
format_by false = tabbed_rows

-- without the option the path is empty
abbrev pub SpellsHas : Option (List ℕ) → List Step → Type 0
SpellsHas None has = has ≡ []
SpellsHas (Some word) has = WordSpells path_in word has

pub record SpellsCommand (columns_word : List ℕ) (has_word : Option (List ℕ)) (strict : Bool) (format : RowFormat) (command : LinesCommand) : Type 0 where
  pub columns : WordSpells columns_in columns_word command.columns
  pub some : 1 ≤ length command.columns
  pub few : length command.columns ≤ 64
  pub has : SpellsHas has_word command.has
  pub strict_so : command.strict ≡ strict
  pub format_so : command.format ≡ format

-- the words ask for this
pub record AsksForColumns (arguments : List (List ℕ)) (command : LinesCommand) : Type 0 where
  pub columns : List ℕ
  pub has : Option (List ℕ)
  pub strict : Bool
  pub csv : Bool
  pub words : HoldsWords arguments (Some columns) has strict csv
  pub spelled : SpellsCommand columns has strict (format_by csv) command

abbrev pub IsLinesRequest : List (List ℕ) → Type 0
IsLinesRequest arguments = (command : LinesCommand) × AsksForColumns arguments command
