-- What is read of a number as a float.
use Rattle.std.specs.Prelude.{◌≡◌, ℕ, pos, List, Option, Some, None}
use Rattle.std.specs.Float.{Float, Format, binary64}
use Rattle.std.specs.Float.Ieee.{nan, inf, fin}
use Rattle.json_grammar.specs.Grammar.{number}
use Rattle.json_grammar.specs.Tree.{Tree, num}
use Rattle.json_io.specs.declared.error.ErrorCode.TheVariants.{TypeUnmatched, NumberOutOfRange}
use Rattle.json_model.specs.Datum.{Datum, boolean_datum, integer_datum, list_datum, no_data, datum_and}
use Rattle.json_number.specs.Floats.{float_in, if_finite, nearest_float, double_of}
use Rattle.json_number.specs.Numbers.{value_of, text_of_number}
use Rattle.json_number.specs.declared.number.Number.{Number}
use Rattle.json_data.specs.Reading.{Reading, gives, refuses}

-- a float as a datum: a list of whether it is negative, and of m and e of m * 2 ^ e; an infinity has its sign alone, and a NaN none of these
abbrev pub float_datum : Float → Datum
float_datum nan = list_datum no_data
float_datum (inf negative) = list_datum (datum_and (boolean_datum negative) no_data)
float_datum (fin negative m e) = list_datum (datum_and (boolean_datum negative) (datum_and (integer_datum (pos m)) (datum_and (integer_datum e) no_data)))

-- the float, if there is one
abbrev pub in_float_range : Option Float → Reading
in_float_range (Some x) = gives (float_datum x)
in_float_range None = refuses NumberOutOfRange

-- of a number, the float of the format that is nearest to it, where that is finite
abbrev pub read_float : Format → Tree → Reading
read_float format (num l) = in_float_range (float_in format l)
read_float format _ = refuses TypeUnmatched

-- ---- laws

-- floats with the same datum are the same float
abbrev pub SameFloat : Type 0
SameFloat = (x y : Float) → float_datum x ≡ float_datum y → x ≡ y

-- a number is read as the float nearest to it, where that is finite, and is out of range otherwise
abbrev pub ReadsNearestFloat : Type 0
ReadsNearestFloat = (format : Format) (l : List ℕ) (n : number l) → read_float format (num l) ≡ in_float_range (if_finite (nearest_float format l n))

-- an integer by value is read as the double nearest to it
abbrev pub ReadsIntegerAsDouble : Type 0
ReadsIntegerAsDouble = (x : Number) → read_float binary64 (num (text_of_number x)) ≡ gives (float_datum (double_of (value_of x)))

-- l is the literal of a number that is read as x
abbrev pub IsReadAs : Format → List ℕ → Float → Type 0
IsReadAs format l x = number l × (read_float format (num l) ≡ gives (float_datum x))
