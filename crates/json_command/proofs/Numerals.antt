-- The numbers that options ask for.
use Rattle.std.proofs.Common.{◌≡◌, ◌⊎◌, inl, inr, Bool, true, false, cond, ◌&&◌, ℕ, ◌<◌, ◌≤◌, List, get_or, Result, Option, Some, None, option_and_then, refl, sym, subst, ap, arith, bytes_eq, codes}
use Rattle.std.specs.Prelude.{nat_le, slice_index, ℤ, pos, negsuc, ◌==◌}
use Rattle.std.specs.List.{before_first, after_first}
use Rattle.json_number.specs.Integers.{integer_in}
use Rattle.std.specs.Str.Parse.{ParsesUnsigned}
use Rattle.std.proofs.lemmas.Bool.{or_cases, and_parts, leb-true, le-leb, lt-leb}
use Rattle.std.proofs.lemmas.Slice.Eq.{bytes_eq-Decides}
use Rattle.json_number.proofs.Integers.{unsigned_of, read_plain}
use Rattle.json_command.specs.Options.{has_no_leading_zero, up_to, number_up_to, number_after}

-- what is plain begins with a digit
first_digit : (l : List ℕ) → has_no_leading_zero l ≡ true → 48 ≤ get_or l 0 0
first_digit l p = by (or_cases (bytes_eq l (codes "0")) (nat_le 49 (slice_index l 0) && nat_le (slice_index l 0) 57) p)
  where
    by : (bytes_eq l (codes "0") ≡ true) ⊎ ((nat_le 49 (slice_index l 0) && nat_le (slice_index l 0) 57) ≡ true) → 48 ≤ get_or l 0 0
    by (inl e) = subst (λ d. 48 ≤ get_or d 0 0) (sym ((bytes_eq-Decides l (codes "0")).0 e)) (omega arith)
    by (inr e) = let q = leb-true 49 (slice_index l 0) (and_parts (nat_le 49 (slice_index l 0)) (nat_le (slice_index l 0) 57) e).0 in omega (arith, q)

pub number_read : {E : Type 0} (max : ℕ) (l : List ℕ) (r : Result ℕ E) → has_no_leading_zero l ≡ true → ParsesUnsigned 64 10 l r → number_up_to max l ≡ option_and_then (up_to max) (unsigned_of r)
number_read max l r p h =
    let d = first_digit l p in
    rw p (ap (option_and_then (up_to max)) (read_plain l r (λ e. omega (arith, d, e)) (λ e. omega (arith, d, e)) h))

pub few_read : (max n : ℕ) → n ≤ max → up_to max (pos n) ≡ Some n
few_read max n l = rw (le-leb n max l) refl

pub many_read : (max n : ℕ) → max < n → up_to max (pos n) ≡ None
many_read max n l = rw (lt-leb n max l) refl

-- ---- the number after a name is not above the greatest

module _ (name : List ℕ) (max : ℕ) where
  few_at : (z : ℤ) (n : ℕ) → up_to max z ≡ Some n → n ≤ max
  few_at (pos m) n e = by (nat_le m max) (leb-true m max) e
    where
      by : (b : Bool) → (b ≡ true → m ≤ max) → cond b (Some m) None ≡ Some n → n ≤ max
      by true h e = let same : m ≡ n = cc in subst (λ n. n ≤ max) same (h refl)
      by false h e = cc
  few_at (negsuc m) n e = cc

  pub few_after : (w : List ℕ) (n : ℕ) → number_after name max w ≡ Some n → n ≤ max
  few_after w n = by (bytes_eq (before_first (λ x. x == 61) w) name) (has_no_leading_zero (after_first (λ x. x == 61) w)) (integer_in (after_first (λ x. x == 61) w))
    where
      by : (a b : Bool) (o : Option ℤ) → cond a (cond b (option_and_then (up_to max) o) None) None ≡ Some n → n ≤ max
      by true true (Some z) e = few_at z n e
      by true true None e = cc
      by true false o e = cc
      by false b o e = cc
