-- The number that digits write, one digit after another.
use Rattle.std.proofs.Common.{◌≡◌, ◌∙◌, ◌+◌, ◌-◌, ◌*◌, ◌^◌, take, drop, true, ℕ, ◌<◌, ◌≤◌, List, [], ◌∷◌, length, get_or, refl, sym, ap, arith, add-one}
use Rattle.std.proofs.Math.Nat.{pow-le-pow_right}
use Rattle.std.proofs.Math.Seq.{drop-cons}
use Rattle.std.proofs.lemmas.Bool.Decides.{nat_tests}
use Rattle.std.proofs.lemmas.Int.Digits.{digits_value_more}
use Rattle.std.specs.Char.{is_ascii_digit, digit_value}
use Rattle.std.specs.List.{list_all}
use Rattle.std.specs.Str.{all_ascii_digits}
use Rattle.std.specs.Str.Parse.{digits_value}

pub all_by_each : (ds : List ℕ) → list_all is_ascii_digit ds ≡ all_ascii_digits ds
all_by_each [] = refl
all_by_each (x ∷ ds) = rw (all_by_each ds)

-- one digit more has room
pub room_for_digit : (at v : ℕ) → at < 19 → v < 10 ^ at → v * 10 + 9 < 2 ^ 64
room_for_digit at v h k = let m : 10 ^ at ≤ 10 ^ 18 = pow-le-pow_right (omega arith) {j = 18} (omega arith) in omega arith

pub one_digit_more : (ds : List ℕ) (i v : ℕ) → i < length ds → is_ascii_digit (get_or ds i 0) ≡ true → v ≡ digits_value 10 (take i ds) → v * 10 + (get_or ds i 0 - 48) ≡ digits_value 10 (take (i + 1) ds)
one_digit_more ds i v inside digit value =
    let worth : digit_value (get_or ds i 0) ≡ get_or ds i 0 - 48 = grind (arith, nat_tests) in
    rw (digits_value_more 10 ds i inside, worth, value)

pub digits_step : (ds : List ℕ) (i : ℕ) → i < length ds → is_ascii_digit (get_or ds i 0) ≡ true → all_ascii_digits (drop i ds) ≡ all_ascii_digits ds → all_ascii_digits (drop (i + 1) ds) ≡ all_ascii_digits ds
digits_step ds i inside digit rest =
    let e : drop i ds ≡ get_or ds i 0 ∷ drop (i + 1) ds = rw (add-one, drop-cons ds i 0 inside) refl in
    sym (rw digit) ∙ sym (ap all_ascii_digits e) ∙ rest
