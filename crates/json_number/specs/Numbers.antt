-- What a number by value represents.
use Rattle.std.specs.Prelude.{ℕ, ℤ, List}
use Rattle.std.specs.Fmt.{signed_decimal}
use Rattle.json_number.specs.BySign.{integer_value}
use Rattle.json_number.specs.declared.number.Number.{Number}

-- its integer
abbrev pub value_of : Number → ℤ
value_of x = integer_value x.form

-- its text, the decimal one
abbrev pub text_of_number : Number → List ℕ
text_of_number x = signed_decimal (value_of x)
