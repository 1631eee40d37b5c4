-- What is given of a datum, from left to right.
use Rattle.std.specs.Prelude.{◌≡◌, List, [], ◌∷◌, ◌++◌, Bool, true, false, Option, None, Some, MatchOption, option_map}
use Rattle.json_grammar.specs.declared.Kind.TheVariants.{Array as array, Object as object}
use Rattle.json_grammar.specs.Tree.{null_token, boolean_token, num_token, text_token, begin, end, key_token, tokens}
use Rattle.json_model.specs.Datum.{Datum, null_datum, boolean_datum, integer_datum, text_datum, literal_datum, list_datum, rows_datum, Data, no_data, datum_and, Rows, no_rows, row_and, key_of, tree_of_datum}
use Rattle.json_print.specs.Given.{TokenOrInteger, given, given_integer, given_tokens}

abbrev mutual
  -- what is given, and none in the place of each key that has no text
  pub parts : Datum → List (Option TokenOrInteger)
  parts null_datum = Some (given null_token) ∷ []
  parts (boolean_datum b) = Some (given (boolean_token b)) ∷ []
  parts (integer_datum n) = Some (given_integer n) ∷ []
  parts (text_datum s) = Some (given (text_token s)) ∷ []
  parts (literal_datum l) = Some (given (num_token l)) ∷ []
  parts (list_datum ds) = Some (given (begin array)) ∷ (data_parts ds ++ Some (given (end array)) ∷ [])
  parts (rows_datum rs) = Some (given (begin object)) ∷ (rows_parts rs ++ Some (given (end object)) ∷ [])

  pub data_parts : Data → List (Option TokenOrInteger)
  data_parts no_data = []
  data_parts (datum_and d ds) = parts d ++ data_parts ds

  pub rows_parts : Rows → List (Option TokenOrInteger)
  rows_parts no_rows = []
  rows_parts (row_and k d rs) = option_map (λ s. given (key_token s)) (key_of k) ∷ (parts d ++ rows_parts rs)

-- those before the first key that has no text
abbrev pub before_gap : List (Option TokenOrInteger) → List TokenOrInteger
before_gap [] = []
before_gap (None ∷ ps) = []
before_gap (Some g ∷ ps) = g ∷ before_gap ps

-- each key has a text
abbrev pub keys_have_texts : List (Option TokenOrInteger) → Bool
keys_have_texts [] = true
keys_have_texts (None ∷ ps) = false
keys_have_texts (Some g ∷ ps) = keys_have_texts ps

-- each key of a datum has a text exactly where the datum has a tree; then what is given of it are the tree's tokens
abbrev pub DatumTokens : Type 0
DatumTokens =
    (d : Datum) → MatchOption (tree_of_datum d) (keys_have_texts (parts d) ≡ false) (λ t. (keys_have_texts (parts d) ≡ true) × (given_tokens (before_gap (parts d)) ≡ tokens t))
