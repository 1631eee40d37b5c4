-- The cell of a value of the kind that its column shows.
use Rattle.std.proofs.Common.{◌≡◌, ℕ, ℤ, List, Bool, Option, None, Some, option_map, is_some, if◌then◌else◌, refl, sym, ap, ◌∙◌}
use Rattle.std.specs.Prelude.{IfSome}
use Rattle.json_grammar.specs.Tree.{Tree, null, boolean, num, text, list, pairs}
use Rattle.json_model.specs.Print.{shown}
use Rattle.json_number.specs.Numbers.{value_of, text_of_number}
use Rattle.json_number.specs.declared.number.Number.{Number}
use Rattle.json_doc.specs.Readings.{string_of, integer_in_tree, bool_of}
use Rattle.json_lines.specs.Cells.{ColumnKind, texts, integers, booleans, any_json, dash, cell_of}
use Rattle.json_lines.specs.Tables.{string_cell, integer_column, boolean_cell}

pub string_cell_is : (k : ColumnKind) (t : Tree) (s : Option (List ℕ)) → k ≡ texts → s ≡ string_of t → string_cell s ≡ cell_of k t
string_cell_is k t s e f = ap string_cell f ∙ by t ∙ ap (λ x. cell_of x t) (sym e)
  where
    by : (t : Tree) → string_cell (string_of t) ≡ cell_of texts t
    by null = refl
    by (boolean b) = refl
    by (num l) = refl
    by (text s) = refl
    by (list ts) = refl
    by (pairs ps) = refl

pub boolean_cell_is : (k : ColumnKind) (t : Tree) (b : Option Bool) → k ≡ booleans → b ≡ bool_of t → boolean_cell b ≡ cell_of k t
boolean_cell_is k t b e f = ap boolean_cell f ∙ by t ∙ ap (λ x. cell_of x t) (sym e)
  where
    by : (t : Tree) → boolean_cell (bool_of t) ≡ cell_of booleans t
    by null = refl
    by (boolean b) = refl
    by (num l) = refl
    by (text s) = refl
    by (list ts) = refl
    by (pairs ps) = refl

-- the literal of a number, where it is an integer by value
abbrev integer_or_dash : Option ℤ → List ℕ → List ℕ
integer_or_dash o l = if is_some o then l else dash

some_integer : (t : Tree) (l : List ℕ) (v : ℤ) → t ≡ num l → Some v ≡ integer_in_tree t → l ≡ cell_of integers t
some_integer t l v e f = ap (λ o. integer_or_dash o l) (f ∙ ap integer_in_tree e) ∙ ap (cell_of integers) (sym e)

no_integer : (t : Tree) → None ≡ integer_in_tree t → dash ≡ cell_of integers t
no_integer null f = refl
no_integer (boolean b) f = refl
no_integer (num l) f = ap (λ o. integer_or_dash o l) f
no_integer (text s) f = refl
no_integer (list ts) f = refl
no_integer (pairs ps) f = refl

pub integer_cell_is : (k : ColumnKind) (t : Tree) (n : Option Number) → k ≡ integers → option_map value_of n ≡ integer_in_tree t → IfSome n (λ m. t ≡ num (text_of_number m)) → integer_column (option_map text_of_number n) ≡ cell_of k t
integer_cell_is k t n e f h = by n f h ∙ ap (λ x. cell_of x t) (sym e)
  where
    by : (n : Option Number) → option_map value_of n ≡ integer_in_tree t → IfSome n (λ m. t ≡ num (text_of_number m)) → integer_column (option_map text_of_number n) ≡ cell_of integers t
    by None f h = no_integer t f
    by (Some m) f h = some_integer t (text_of_number m) (value_of m) h f

pub any_cell_is : (k : ColumnKind) (t u : Tree) → k ≡ any_json → u ≡ t → shown None 0 u ≡ cell_of k t
any_cell_is k t u e f = ap (shown None 0) f ∙ ap (λ x. cell_of x t) (sym e)
