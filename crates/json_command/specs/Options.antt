-- The number that an option asks for: `--NAME=N`.
use Rattle.std.specs.Prelude.{ℕ, Bool, cond, ◌&&◌, ◌||◌, ◌==◌, nat_le, slice_index, List, Option, Some, None, option_and_then, ℤ, pos, negsuc, bytes_eq, codes, ◌-◌, [], ◌∷◌}
use Rattle.std.specs.List.{before_first, after_first}
use Rattle.json_number.specs.Integers.{integer_in}

-- the number that this is, where it is from 0 to the greatest
abbrev pub up_to : ℕ → ℤ → Option ℕ
up_to max (pos n) = cond (nat_le n max) (Some n) None
up_to max (negsuc n) = None

-- `0`, or what begins with a digit from 1 to 9
abbrev pub has_no_leading_zero : List ℕ → Bool
has_no_leading_zero d = bytes_eq d (codes "0") || (nat_le 49 (slice_index d 0) && nat_le (slice_index d 0) 57)

-- the number that decimal digits without a leading zero are, from 0 to the greatest
abbrev pub number_up_to : ℕ → List ℕ → Option ℕ
number_up_to max d = cond (has_no_leading_zero d) (option_and_then (up_to max) (integer_in d)) None

-- the number after a name and the first equals sign, from 0 to the greatest
abbrev pub number_after : List ℕ → ℕ → List ℕ → Option ℕ
number_after name max word = cond (bytes_eq (before_first (λ x. x == 61) word) name) (number_up_to max (after_first (λ x. x == 61) word)) None

-- the greatest number of levels that a word asks for: --depth=N the number N, at most 1,024
abbrev pub depth_in : List ℕ → Option ℕ
depth_in w = number_after (codes "--depth") 1024 w

-- the number that one digit from 0 to 8 is
abbrev pub width_in : List ℕ → Option ℕ
width_in (d ∷ []) = cond (nat_le 48 d && nat_le d 56) (Some (d - 48)) None
width_in _ = None
