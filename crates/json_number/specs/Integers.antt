-- The integer that a number's literal represents by value. Bytes are written as numbers: 45 is `-`.
use Rattle.std.specs.Prelude.{ℕ, zero, suc, ◌^◌, ℤ, pos, negsuc, neg_ℤ, List, [], ◌∷◌, ◌&&◌, ◌==◌, nat_lt, nat_le, if◌then◌else◌, Some, None, Option}
use Rattle.std.specs.Str.{all_ascii_digits}
use Rattle.std.specs.Str.Parse.{digits_value}

-- -n, where that is below 0 and lies in `i64`
abbrev pub below_zero : ℕ → Option ℤ
below_zero n = if nat_lt 0 n && nat_le n (2 ^ 63) then Some (neg_ℤ (pos n)) else None

-- n, where that lies in `u64`
abbrev pub from_zero : ℕ → Option ℤ
from_zero n = if nat_lt n (2 ^ 64) then Some (pos n) else None

-- The integer of a number's literal: there is none where digits are not all that it has after its
-- minus, that is, where it has a fraction or an exponent, none for `-0`, and none where it lies
-- neither in `i64` nor in `u64`.
unfoldable pub integer_in : List ℕ → Option ℤ
integer_in [] = None
integer_in (x ∷ b) =
    if x == 45 then (if all_ascii_digits b then below_zero (digits_value 10 b) else None)
    else (if all_ascii_digits (x ∷ b) then from_zero (digits_value 10 (x ∷ b)) else None)

-- the integer, where it lies in `i64`
abbrev pub in_i64 : ℤ → Option ℤ
in_i64 (pos n) = if nat_lt n (2 ^ 63) then Some (pos n) else None
in_i64 (negsuc n) = if nat_lt n (2 ^ 63) then Some (negsuc n) else None

-- the integer, where it lies in `u64`
abbrev pub in_u64 : ℤ → Option ℕ
in_u64 (pos n) = if nat_lt n (2 ^ 64) then Some n else None
in_u64 (negsuc n) = None

-- ---- of any width

-- -n, where that is below 0
abbrev pub minus : ℕ → Option ℤ
minus zero = None
minus (suc n) = Some (negsuc n)

-- the integer of a number's literal that is an optional minus and digits, other than `-0`
unfoldable pub whole_in : List ℕ → Option ℤ
whole_in [] = None
whole_in (x ∷ b) = if x == 45 then (if all_ascii_digits b then minus (digits_value 10 b) else None) else (if all_ascii_digits (x ∷ b) then Some (pos (digits_value 10 (x ∷ b))) else None)
