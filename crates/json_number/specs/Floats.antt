-- The floats of a number's literal. Bytes are written as numbers: 43 is `+`, 45 `-`.
use Rattle.std.specs.Prelude.{ℕ, ◌+◌, ◌*◌, ◌^◌, List, [], ◌∷◌, ◌++◌, length, get_or, drop, Bool, ◌&&◌, ◌||◌, ◌==◌, if◌then◌else◌, ℤ, Option, Some, None, option_and_then, is_some, is_none}
use Rattle.std.specs.Float.{Float, Format, binary64, float_is_finite}
use Rattle.std.specs.Float.Ieee.{of_int, round}
use Rattle.std.specs.Str.Parse.{digits_value}
use Rattle.std.specs.Float.Parse.{parse_float}
use Rattle.json_grammar.specs.Grammar.{number}
use Rattle.json_number.specs.Integers.{in_i64, in_u64}

-- x, where it is finite
abbrev pub if_finite : Float → Option Float
if_finite x = if float_is_finite x then Some x else None

-- a minus is first
abbrev pub has_minus : List ℕ → Bool
has_minus b = get_or b 0 0 == 45

-- what is after a plus or a minus, if one is first
abbrev pub after_sign : List ℕ → List ℕ
after_sign [] = []
after_sign (x ∷ b) = if (x == 45 || x == 43) then b else x ∷ b

-- how many places the exponent part moves the point to the right
abbrev pub places_up : List ℕ → ℕ
places_up [] = 0
places_up (x ∷ b) = if has_minus b then 0 else digits_value 10 (after_sign b)

-- how many places the exponent part moves the point to the left
abbrev pub places_down : List ℕ → ℕ
places_down [] = 0
places_down (x ∷ b) = if has_minus b then digits_value 10 (after_sign b) else 0

-- The float of a format that is nearest to the number: all its digits, without the dot, by a power of ten. Of the sign s, the integer part w, the fraction part
-- f, whose first byte is the dot, and the exponent part e.
abbrev pub nearest_float : Format → (b : List ℕ) → number b → Float
nearest_float format b n =
    round format (has_minus n.s) (digits_value 10 (n.w ++ drop 1 n.f) * 10 ^ places_up n.e) (10 ^ (length (drop 1 n.f) + places_down n.e))

-- the float that a literal writes by std's rule, where it is finite
abbrev pub float_in : Format → List ℕ → Option Float
float_in format b = option_and_then if_finite (parse_float format b)

-- the double nearest to an integer
abbrev pub double_of : ℤ → Float
double_of z = of_int binary64 z

-- an integer lies in neither `i64` nor `u64`, and a double is finite
abbrev pub is_double : Option ℤ → Option Float → Bool
is_double z x = is_none (option_and_then in_i64 z) && is_none (option_and_then in_u64 z) && is_some x
