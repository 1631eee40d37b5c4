-- Laws of numbers.
use Rattle.std.specs.Prelude.{◌≡◌, ◌↔◌, ◌==◌, true, ℕ, ◌^◌, ℤ, pos, neg_ℤ, ◌≤ℤ◌, ◌<ℤ◌, List, Some}
use Rattle.std.specs.Cmp.Lexicographic.{pointwise}
use Rattle.std.specs.Float.{Format, binary64, float_is_finite}
use Rattle.std.specs.Fmt.{signed_decimal}
use Rattle.std.specs.Ordering.{on}
use Rattle.json_grammar.specs.Grammar.{number}
use Rattle.json_number.specs.Integers.{integer_in}
use Rattle.json_number.specs.Numbers.{value_of, text_of_number}
use Rattle.json_number.specs.Literals.{raw_literal}
use Rattle.json_number.specs.Floats.{if_finite, float_in, nearest_float, double_of}
use Rattle.json_number.specs.declared.number.Number.{Number}
use Rattle.json_number.specs.declared.raw_number.RawNumber.{RawNumber}

-- the decimal text of the integer that a literal represents is the literal
abbrev pub PrintsItsLiteral : Type 0
PrintsItsLiteral = (l : List ℕ) (n : ℤ) → number l → integer_in l ≡ Some n → signed_decimal n ≡ l

-- the text of a number is the literal of a number, which represents the same integer
abbrev pub ReadsBack : Type 0
ReadsBack = (x : Number) → number (text_of_number x) × (integer_in (text_of_number x) ≡ Some (value_of x))

-- a number lies from -2^63 to 2^64 - 1
abbrev pub ValueInRange : Type 0
ValueInRange = (x : Number) → (neg_ℤ (pos (2 ^ 63)) ≤ℤ value_of x) × (value_of x <ℤ pos (2 ^ 64))

-- numbers of one value are the same number
abbrev pub SameValue : Type 0
SameValue = (x y : Number) → value_of x ≡ value_of y → x ≡ y

-- numbers of one value have one text, and conversely
abbrev pub SameText : Type 0
SameText = (x y : Number) → (value_of x ≡ value_of y) ↔ (text_of_number x ≡ text_of_number y)

-- the literal of a raw number is a number
abbrev pub LiteralIsNumber : Type 0
LiteralIsNumber = (r : RawNumber) → number (raw_literal r)

-- raw numbers are equal exactly where they have one literal
abbrev pub EqualByLiteral : Type 0
EqualByLiteral = (r s : RawNumber) → (on raw_literal (pointwise ◌==◌) r s ≡ true) ↔ (raw_literal r ≡ raw_literal s)

-- the float of a number's literal is the one nearest to it, where that is finite
abbrev pub FloatIsNearest : Type 0
FloatIsNearest = (format : Format) (l : List ℕ) (n : number l) → float_in format l ≡ if_finite (nearest_float format l n)

-- the double nearest to a number is finite where it is an integer by value
abbrev pub IntegerIsFinite : Type 0
IntegerIsFinite = (x : Number) → float_is_finite (double_of (value_of x)) ≡ true

-- the double of an integer by value is that of its literal
abbrev pub IntegerDouble : Type 0
IntegerDouble = (l : List ℕ) (n : ℤ) → number l → integer_in l ≡ Some n → float_in binary64 l ≡ Some (double_of n)
