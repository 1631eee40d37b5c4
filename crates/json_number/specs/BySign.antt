-- Integers of 64 bits by their sign.
use Rattle.std.specs.Prelude.{◌^◌, ℤ, pos, negsuc, ◌<ℤ◌, Bool, false, nat_lt}
use Rattle.json_number.specs.declared.number.Integer.{Integer}
use Rattle.json_number.specs.declared.number.Integer.TheVariants.{Unsigned, Negative}

-- the integer
abbrev pub integer_value : Integer → ℤ
integer_value (Unsigned n) = pos n
integer_value (Negative z) = z

-- `Negative` of the integers below 0 alone, and each in its type; `negsuc n` is -(n + 1)
abbrev pub is_formed : Integer → Bool
is_formed (Unsigned n) = nat_lt n (2 ^ 64)
is_formed (Negative (pos n)) = false
is_formed (Negative (negsuc n)) = nat_lt n (2 ^ 63)

-- an integer that is `Negative` is below 0
abbrev pub NegativeIsBelowZero : Integer → Type 0
NegativeIsBelowZero (Unsigned n) = Unit {0}
NegativeIsBelowZero (Negative z) = z <ℤ pos 0
