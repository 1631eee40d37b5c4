-- Integers of literals of any width, and those of 64 bits among them.
use Rattle.std.proofs.Common.{◌≡◌, ◌≢◌, ◌∙◌, ◌⊎◌, inl, inr, Bool, true, false, ℕ, zero, suc, ◌<◌, ◌≤◌, ◌^◌, ℤ, pos, negsuc, if◌then◌else◌, ◌==◌, List, [], ◌∷◌, length, get_or, drop, Option, Some, None, Result, Ok, Err, refl, sym, ap, subst, arith}
use Rattle.std.proofs.lemmas.Bool.{cases_lt, ne_eqb, le-ltb}
use Rattle.std.proofs.lemmas.Str.Parse.{parse_digits}
use Rattle.std.specs.Result.{OkIff}
use Rattle.std.specs.Str.{all_ascii_digits}
use Rattle.std.specs.Str.Parse.{digits_value, ParsesUnsigned}
use Rattle.json_number.specs.Integers.{below_zero, from_zero, integer_in, minus, whole_in}
use Rattle.json_number.specs.IntegerLiterals.{IsIntegerLiteral, below_of, plain_of, in_64_bits}
use Rattle.json_number.specs.declared.any_width.IntegerLiteral.{IntegerLiteral}
use Rattle.json_number.specs.declared.any_width.IntegerLiteral.TheVariants.{NotInteger, Negative, NonNegative, TooBig}
use Rattle.json_number.proofs.Integers.{own, below_zero_large}

-- ---- what `parse` answers of many digits

parsed : {E : Type 0} (d : List ℕ) (r : Result ℕ E) → ParsesUnsigned 128 10 d r → all_ascii_digits d ≡ true → OkIff r ((0 < length d) × (digits_value 10 d < 2 ^ 128)) (digits_value 10 d)
parsed d r h e = parse_digits own 128 d r h e

pub parsed_is : {E : Type 0} (d : List ℕ) (r : Result ℕ E) (n : ℕ) → ParsesUnsigned 128 10 d r → all_ascii_digits d ≡ true → r ≡ Ok n → digits_value 10 d ≡ n
parsed_is d r n h a i = sym (subst (λ (q : Result ℕ _). OkIff q ((0 < length d) × (digits_value 10 d < 2 ^ 128)) (digits_value 10 d)) i (parsed d r h a)).1

pub parsed_large : {E : Type 0} (d : List ℕ) (r : Result ℕ E) (e : E) → ParsesUnsigned 128 10 d r → all_ascii_digits d ≡ true → 0 < length d → r ≡ Err e → 2 ^ 128 ≤ digits_value 10 d
parsed_large d r e h a l i = by (subst (λ (q : Result ℕ _). OkIff q ((0 < length d) × (digits_value 10 d < 2 ^ 128)) (digits_value 10 d)) i (parsed d r h a)) (cases_lt (digits_value 10 d) (2 ^ 128))
  where
    by : ¬ ((0 < length d) × (digits_value 10 d < 2 ^ 128)) → (digits_value 10 d < 2 ^ 128) ⊎ (2 ^ 128 ≤ digits_value 10 d) → 2 ^ 128 ≤ digits_value 10 d
    by n (inl k) = absurd (n (l, k))
    by n (inr k) = k

-- ---- the sign

pub whole_empty : (l : List ℕ) → length l ≡ 0 → whole_in l ≡ None
unfolding whole_in
whole_empty [] e = refl
whole_empty (x ∷ b) e = absurd (omega arith)

pub whole_minus : (l : List ℕ) → get_or l 0 0 ≡ 45 → whole_in l ≡ below_of (drop 1 l)
unfolding whole_in
whole_minus [] e = cc
whole_minus (x ∷ b) e = rw e

pub whole_plain : (l : List ℕ) → get_or l 0 0 ≢ 45 → 0 < length l → whole_in l ≡ plain_of l
unfolding whole_in
whole_plain [] e h = absurd (omega arith)
whole_plain (x ∷ b) e h = rw (ne_eqb x 45 e)

-- ---- 64 bits

-- the integer, where it lies in `i64` or in `u64`
abbrev in_64 : Option ℤ → Option ℤ
in_64 None = None
in_64 (Some (pos n)) = from_zero n
in_64 (Some (negsuc n)) = below_zero (suc n)

narrowed : (l : List ℕ) → integer_in l ≡ in_64 (whole_in l)
unfolding integer_in whole_in
narrowed [] = refl
narrowed (x ∷ b) = by (x == 45) (all_ascii_digits b) (all_ascii_digits (x ∷ b)) (digits_value 10 b) (digits_value 10 (x ∷ b))
  where
    by : (p q r : Bool) (v w : ℕ) → (if p then (if q then below_zero v else None) else (if r then from_zero w else None)) ≡ in_64 (if p then (if q then minus v else None) else (if r then Some (pos w) else None))
    by true true r zero w = refl
    by true true r (suc n) w = refl
    by true false r v w = refl
    by false q true v w = refl
    by false q false v w = refl

narrow_none : (l : List ℕ) → whole_in l ≡ None → integer_in l ≡ None
narrow_none l e = narrowed l ∙ ap in_64 e

narrow_plain : (l : List ℕ) (n : ℕ) → whole_in l ≡ Some (pos n) → integer_in l ≡ from_zero n
narrow_plain l n e = narrowed l ∙ ap in_64 e

narrow_minus : (l : List ℕ) (n : ℕ) → whole_in l ≡ minus n → 0 < n → integer_in l ≡ below_zero n
narrow_minus l zero e p = absurd (omega arith)
narrow_minus l (suc n) e p = narrowed l ∙ ap in_64 e

from_zero_large : (n : ℕ) → 2 ^ 64 ≤ n → from_zero n ≡ None
from_zero_large n h = rw (le-ltb n (2 ^ 64) h) refl

-- the integer of any width has that of 64 bits
pub narrows : (l : List ℕ) (w : IntegerLiteral) → IsIntegerLiteral (whole_in l) w → integer_in l ≡ in_64_bits w
narrows l NotInteger h = narrow_none l h
narrows l (Negative n) h = narrow_minus l n h.0 h.1
narrows l (NonNegative n) h = narrow_plain l n h
narrows l TooBig (v, k, inl e) = narrow_plain l v e ∙ from_zero_large v (omega arith)
narrows l TooBig (v, k, inr e) = narrow_minus l v e (omega arith) ∙ below_zero_large v (omega arith)

-- an integer of 64 bits is the integer of any width
pub whole_by_value : (l : List ℕ) (z : ℤ) → integer_in l ≡ Some z → whole_in l ≡ Some z
whole_by_value l z e = by (whole_in l) refl
  where
    plain : (b : Bool) (n : ℕ) → (if b then Some (pos n) else None) ≡ Some z → Some (pos n) ≡ Some z
    plain true n e = e
    plain false n e = absurd (cc)

    below : (b : Bool) (n : ℕ) → (if b then Some (negsuc n) else None) ≡ Some z → Some (negsuc n) ≡ Some z
    below true n e = e
    below false n e = absurd (cc)

    by : (o : Option ℤ) → whole_in l ≡ o → o ≡ Some z
    by None w = let f : None ≡ Some z = sym (narrow_none l w) ∙ e in absurd (cc)
    by (Some (pos n)) w = plain _ n (sym (narrow_plain l n w) ∙ e)
    by (Some (negsuc n)) w = below _ n (sym (narrow_minus l (suc n) w (omega arith)) ∙ e)
