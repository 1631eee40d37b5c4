-- What a reader of each type answers of a tree: a datum, or the leftmost refusal.
use Rattle.std.specs.Prelude.{ℕ, ℤ, pos, negsuc, List, [], ◌∷◌, length, Bool, ◌==◌, nat_lt, if◌then◌else◌, Option, Some, None, ◌≡◌, true, Result, IfOk}
use Rattle.std.specs.Str.{chars}
use Rattle.std.specs.Cmp.Lexicographic.{slice_cmp}
use Rattle.std.specs.Ordering.{nat_cmp, int_cmp, bool_cmp, match_ordering}
use Rattle.std.specs.declared.cmp.Ordering.{Ordering}
use Rattle.std.specs.declared.cmp.Ordering.TheVariants.{Equal}
use Rattle.json_grammar.specs.Tree.{Tree, null, boolean, num, text, list, pairs, Trees, no_trees, tree_and, Pairs, no_pairs, pair_and}
use Rattle.json_model.specs.Datum.{Datum, null_datum, boolean_datum, integer_datum, text_datum, literal_datum, list_datum, rows_datum, Rows, no_rows, row_and, list_data}
use Rattle.json_number.specs.Integers.{integer_in, whole_in}
use Rattle.json_number.specs.Tests.{is_number_text}
use Rattle.json_io.specs.declared.error.ErrorCode.{ErrorCode}
use Rattle.json_io.specs.declared.error.ErrorCode.TheVariants.{TypeUnmatched, NumberOutOfRange}

pub data Reading : Type 0 where
  gives : Datum → Reading
  refuses : ErrorCode → Reading

-- the same of several trees
pub data Series : Type 0 where
  gives_all : List Datum → Series
  stops : ErrorCode → Series

-- the leftmost error is returned
abbrev pub prepend_reading : Reading → Series → Series
prepend_reading (refuses c) s = stops c
prepend_reading (gives d) (stops c) = stops c
prepend_reading (gives d) (gives_all ds) = gives_all (d ∷ ds)

abbrev pub each : (Tree → Reading) → Trees → Series
each f no_trees = gives_all []
each f (tree_and t ts) = prepend_reading (f t) (each f ts)

abbrev pub as_list : Series → Reading
as_list (gives_all ds) = gives (list_datum (list_data ds))
as_list (stops c) = refuses c

-- ---- what each type reads

abbrev pub read_any : Tree → Reading
read_any t = gives null_datum

abbrev pub read_boolean : Tree → Reading
read_boolean (boolean b) = gives (boolean_datum b)
read_boolean _ = refuses TypeUnmatched

abbrev pub read_unit : Tree → Reading
read_unit null = gives null_datum
read_unit _ = refuses TypeUnmatched

abbrev pub read_text : Tree → Reading
read_text (text s) = gives (text_datum s)
read_text _ = refuses TypeUnmatched

-- a text of one character
abbrev pub one_character : List ℕ → Reading
one_character s = if length (chars s) == 1 then gives (text_datum s) else refuses TypeUnmatched

abbrev pub read_character : Tree → Reading
read_character (text s) = one_character s
read_character _ = refuses TypeUnmatched

abbrev pub read_option : (Tree → Reading) → Tree → Reading
read_option f null = gives null_datum
read_option f t = f t

abbrev pub read_list : (Tree → Reading) → Tree → Reading
read_list f (list ts) = as_list (each f ts)
read_list f _ = refuses TypeUnmatched

-- ---- numbers

-- an integer of a type, by whether it lies in it
abbrev pub in_range : (ℤ → Bool) → Option ℤ → Reading
in_range fits None = refuses TypeUnmatched
in_range fits (Some n) = if fits n then gives (integer_datum n) else refuses NumberOutOfRange

-- the integer of a tree, if any
abbrev pub tree_integer : Tree → Option ℤ
tree_integer (num l) = whole_in l
tree_integer _ = None

abbrev pub read_integer : (ℤ → Bool) → Tree → Reading
read_integer fits t = in_range fits (tree_integer t)

-- from -low on, and below high
abbrev pub is_between : ℕ → ℕ → ℤ → Bool
is_between low high (pos n) = nat_lt n high
is_between low high (negsuc n) = nat_lt n low

-- an integer by value: every other integer literal is out of range
abbrev pub by_value : Option ℤ → Option ℤ → Reading
by_value (Some n) w = gives (integer_datum n)
by_value None (Some n) = refuses NumberOutOfRange
by_value None None = refuses TypeUnmatched

abbrev pub read_number : Tree → Reading
read_number (num l) = by_value (integer_in l) (whole_in l)
read_number _ = refuses TypeUnmatched

-- a number, or a text that is one
abbrev pub read_literal : Tree → Reading
read_literal (num l) = gives (literal_datum l)
read_literal (text s) = if is_number_text s then gives (literal_datum s) else refuses TypeUnmatched
read_literal _ = refuses TypeUnmatched

-- ---- keys, and pairs of them

-- how the data of keys of one type are ordered; null precedes all others
abbrev pub key_cmp : Datum → Datum → Ordering
key_cmp (text_datum a) (text_datum b) = slice_cmp nat_cmp a b
key_cmp (integer_datum a) (integer_datum b) = int_cmp a b
key_cmp (boolean_datum a) (boolean_datum b) = bool_cmp a b
key_cmp _ _ = Equal

-- one row more, in order; the last value of a key stays
abbrev pub insert_row : Datum → Datum → Rows → Rows
insert_row k v no_rows = row_and k v no_rows
insert_row k v (row_and l w rs) = match_ordering (key_cmp k l) (row_and k v (row_and l w rs)) (row_and l v rs) (row_and l w (insert_row k v rs))

-- a pair more: the key's refusal, then the value's
abbrev pub row_step : Reading → Reading → (Rows → Reading) → Rows → Reading
row_step (refuses c) v k rs = refuses c
row_step (gives d) (refuses c) k rs = refuses c
row_step (gives d) (gives v) k rs = k (insert_row d v rs)

abbrev pub rows_from : (List ℕ → Reading) → (Tree → Reading) → Rows → Pairs → Reading
rows_from f h rs no_pairs = gives (rows_datum rs)
rows_from f h rs (pair_and k t ps) = row_step (f k) (h t) (λ r. rows_from f h r ps) rs

abbrev pub read_map : (List ℕ → Reading) → (Tree → Reading) → Tree → Reading
read_map f h (pairs ps) = rows_from f h no_rows ps
read_map f h _ = refuses TypeUnmatched

-- an integer that is returned lies between them
abbrev pub ReturnsBetween : {E : Type 0} → ℕ → ℕ → Result ℤ E → Type 0
ReturnsBetween low high result = IfOk result (λ n. is_between low high n ≡ true)
