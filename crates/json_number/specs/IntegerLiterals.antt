-- Integers of literals of any width, as they are returned.
use Rattle.std.specs.Prelude.{◌≡◌, ◌⊎◌, ℕ, ◌^◌, ◌<◌, ◌≤◌, ℤ, pos, List, Option, Some, None, if◌then◌else◌}
use Rattle.std.specs.Str.{all_ascii_digits}
use Rattle.std.specs.Str.Parse.{digits_value}
use Rattle.json_number.specs.Integers.{below_zero, from_zero, minus}
use Rattle.json_number.specs.declared.any_width.IntegerLiteral.{IntegerLiteral}
use Rattle.json_number.specs.declared.any_width.IntegerLiteral.TheVariants.{NotInteger, Negative, NonNegative, TooBig}

-- the integer is returned: none, one below 0 or from 0 on within 128 bits, or one beyond
abbrev pub IsIntegerLiteral : Option ℤ → IntegerLiteral → Type 0
IsIntegerLiteral o NotInteger = o ≡ None
IsIntegerLiteral o (Negative n) = (o ≡ minus n) × (0 < n)
IsIntegerLiteral o (NonNegative n) = o ≡ Some (pos n)
IsIntegerLiteral o TooBig = (v : ℕ) × (2 ^ 128 ≤ v) × ((o ≡ Some (pos v)) ⊎ (o ≡ minus v))

-- after a minus
abbrev pub below_of : List ℕ → Option ℤ
below_of d = if all_ascii_digits d then minus (digits_value 10 d) else None

-- with no minus
abbrev pub plain_of : List ℕ → Option ℤ
plain_of d = if all_ascii_digits d then Some (pos (digits_value 10 d)) else None

-- the integer that is returned, where it lies in `i64` or in `u64`
abbrev pub in_64_bits : IntegerLiteral → Option ℤ
in_64_bits NotInteger = None
in_64_bits (Negative n) = below_zero n
in_64_bits (NonNegative n) = from_zero n
in_64_bits TooBig = None
