-- The integer of a literal: what `parse` answers for it, and that its decimal text is the literal.
use Rattle.std.proofs.Common.{◌≡◌, ◌≢◌, ◌⊎◌, inl, inr, Bool, ℕ, zero, suc, ◌<◌, ◌≤◌, ◌^◌, ℤ, pos, negsuc, neg_ℤ, List, [], ◌∷◌, length, get_or, true, false, if◌then◌else◌, Option, Some, None, Result, Ok, Err, refl, sym, ap, ◌∙◌, subst, arith, append-nil}
use Rattle.std.proofs.lemmas.Bool.{cases_Bool, cases_lt, cases_eq, lt-ltb, le-ltb, le-leb, lt-leb, and_parts, ne_eqb}
use Rattle.std.proofs.lemmas.Fmt.{decimal-digits_value, length-decimal-le, decimal_digit, first_decimal, digits_decimal, digits_value-decimal, decimal_nonempty}
use Rattle.std.proofs.lemmas.Str.Parse.{IsNumeralModel, numerals_by_value, tells_all_ascii_digits, parse_plain}
use Rattle.std.specs.Result.{OkIff}
use Rattle.std.specs.Str.{all_ascii_digits}
use Rattle.std.specs.Str.Parse.{digits_value, ParsesUnsigned}
use Rattle.std.specs.Fmt.{decimal, signed_decimal}
use Rattle.json_grammar.specs.Grammar.{digits, integer_part, number}
use Rattle.json_number.specs.Integers.{below_zero, from_zero, integer_in}
use Rattle.json_number.proofs.Literals.{digit_of, zero_alone, zero_alone_below}

pub own : IsNumeralModel (λ ds. all_ascii_digits ds ≡ true) (digits_value 10)
own = numerals_by_value _ tells_all_ascii_digits

-- ---- the two cases of the sign

pub minus_is : (b : List ℕ) → integer_in (45 ∷ b) ≡ (if all_ascii_digits b then below_zero (digits_value 10 b) else None)
unfolding integer_in
minus_is b = refl

pub plain_is : (x : ℕ) (b : List ℕ) → x ≢ 45 → integer_in (x ∷ b) ≡ (if all_ascii_digits (x ∷ b) then from_zero (digits_value 10 (x ∷ b)) else None)
unfolding integer_in
plain_is x b h = rw (ne_eqb x 45 h) refl

pub empty_is : integer_in [] ≡ None
unfolding integer_in
empty_is = refl

-- ---- what `parse` answers

-- the answer of `parse` at an unsigned type
abbrev pub unsigned_of : {E : Type 0} → Result ℕ E → Option ℤ
unsigned_of (Ok n) = Some (pos n)
unsigned_of (Err e) = None

pub below_zero_large : (v : ℕ) → 2 ^ 63 < v → below_zero v ≡ None
below_zero_large v h = rw (lt-ltb 0 v (omega arith), lt-leb v (2 ^ 63) h) refl

plain_digits : {E : Type 0} (x : ℕ) (b : List ℕ) (r : Result ℕ E) → OkIff r ((all_ascii_digits (x ∷ b) ≡ true) × (0 < length (x ∷ b)) × (digits_value 10 (x ∷ b) < 2 ^ 64)) (digits_value 10 (x ∷ b))
    → (if all_ascii_digits (x ∷ b) then from_zero (digits_value 10 (x ∷ b)) else None) ≡ unsigned_of r
plain_digits x b (Ok n) (p, e) = rw (p.0, lt-ltb _ _ p.2, e) refl
plain_digits x b (Err y) h = by (cases_Bool (all_ascii_digits (x ∷ b)))
  where
    by : (all_ascii_digits (x ∷ b) ≡ true) ⊎ (all_ascii_digits (x ∷ b) ≡ false) → (if all_ascii_digits (x ∷ b) then from_zero (digits_value 10 (x ∷ b)) else None) ≡ None
    by (inl e) = rw (e, le-ltb _ _ (large (cases_lt (digits_value 10 (x ∷ b)) (2 ^ 64)))) refl
      where
        large : (digits_value 10 (x ∷ b) < 2 ^ 64) ⊎ (2 ^ 64 ≤ digits_value 10 (x ∷ b)) → 2 ^ 64 ≤ digits_value 10 (x ∷ b)
        large (inl k) = absurd (h (e, omega arith, k))
        large (inr k) = k
    by (inr e) = rw e refl

pub read_plain : {E : Type 0} (l : List ℕ) (r : Result ℕ E) → get_or l 0 0 ≢ 45 → get_or l 0 0 ≢ 43 → ParsesUnsigned 64 10 l r → integer_in l ≡ unsigned_of r
read_plain [] (Ok n) m p h = absurd (omega (arith, h.0.0))
read_plain [] (Err e) m p h = empty_is
read_plain (x ∷ b) r m p h = plain_is x b m ∙ plain_digits x b r (parse_plain own 64 (x ∷ b) r h p)

-- ---- the literal of an integer

-- what a literal of the integer z is
record Spells (l : List ℕ) (z : ℤ) : Type 0 where
  text : signed_decimal z ≡ l
  short : length l ≤ 20

plain_spells : (x : ℕ) (b : List ℕ) (n : ℤ) → number (x ∷ b) → (if all_ascii_digits (x ∷ b) then from_zero (digits_value 10 (x ∷ b)) else None) ≡ Some n → Spells (x ∷ b) n
plain_spells x b n h = by (cases_Bool (all_ascii_digits (x ∷ b))) (cases_lt (digits_value 10 (x ∷ b)) (2 ^ 64))
  where
    by : (all_ascii_digits (x ∷ b) ≡ true) ⊎ (all_ascii_digits (x ∷ b) ≡ false) → (digits_value 10 (x ∷ b) < 2 ^ 64) ⊎ (2 ^ 64 ≤ digits_value 10 (x ∷ b))
        → (if all_ascii_digits (x ∷ b) then from_zero (digits_value 10 (x ∷ b)) else None) ≡ Some n → Spells (x ∷ b) n
    by (inl d) (inl k) e =
        let t = decimal-digits_value own (x ∷ b) d (omega arith) (zero_alone (x ∷ b) h d) k in
        let f : Some (pos (digits_value 10 (x ∷ b))) ≡ Some n = sym (rw (d, lt-ltb _ _ k) refl) ∙ e in
        let g : pos (digits_value 10 (x ∷ b)) ≡ n = cc in
        record { text = ap signed_decimal (sym g) ∙ t; short = omega (arith, ap length t, length-decimal-le 20 (digits_value 10 (x ∷ b)) (omega arith) (omega arith) k) }
    by (inl d) (inr k) e = let f : None ≡ Some n = sym (rw (d, le-ltb _ _ k) refl) ∙ e in cc
    by (inr d) k e = let f : None ≡ Some n = sym (rw d refl) ∙ e in cc

pub below_zero_some : (v : ℕ) (n : ℤ) → below_zero v ≡ Some n → (0 < v) × (v ≤ 2 ^ 63) × (neg_ℤ (pos v) ≡ n)
below_zero_some v n e = by (cases_lt 0 v) (cases_lt (2 ^ 63) v)
  where
    by : (0 < v) ⊎ (v ≤ 0) → (2 ^ 63 < v) ⊎ (v ≤ 2 ^ 63) → (0 < v) × (v ≤ 2 ^ 63) × (neg_ℤ (pos v) ≡ n)
    by (inl p) (inr k) = let f : Some (neg_ℤ (pos v)) ≡ Some n = sym (rw (lt-ltb 0 v p, le-leb v (2 ^ 63) k) refl) ∙ e in (p, k, cc)
    by (inl p) (inl k) = let f : None ≡ Some n = sym (below_zero_large v k) ∙ e in cc
    by (inr p) k = let f : None ≡ Some n = sym (rw (le-ltb 0 v p) refl) ∙ e in cc

negative_text : (v : ℕ) → 0 < v → signed_decimal (neg_ℤ (pos v)) ≡ 45 ∷ decimal v
negative_text zero h = absurd (omega arith)
negative_text (suc v) h = refl

minus_spells : (b : List ℕ) (n : ℤ) → number (45 ∷ b) → (if all_ascii_digits b then below_zero (digits_value 10 b) else None) ≡ Some n → Spells (45 ∷ b) n
minus_spells b n h = by (cases_Bool (all_ascii_digits b)) (cases_lt 0 (length b))
  where
    by : (all_ascii_digits b ≡ true) ⊎ (all_ascii_digits b ≡ false) → (0 < length b) ⊎ (length b ≤ 0)
        → (if all_ascii_digits b then below_zero (digits_value 10 b) else None) ≡ Some n → Spells (45 ∷ b) n
    by (inl d) (inl k) e =
        let f : below_zero (digits_value 10 b) ≡ Some n = sym (rw d refl) ∙ e in
        let q = below_zero_some (digits_value 10 b) n f in
        let p = q.0 in let w = q.1 in
        let t = decimal-digits_value own b d k (zero_alone_below b h d) (omega arith) in
        record {
          text = ap signed_decimal (sym q.2) ∙ negative_text (digits_value 10 b) p ∙ ap (λ o. 45 ∷ o) t;
          short = omega (arith, ap length t, length-decimal-le 19 (digits_value 10 b) (omega arith) (omega arith) (omega arith));
        }
    by (inl d) (inr k) e = none b k e
      where
        none : (a : List ℕ) → length a ≤ 0 → (if all_ascii_digits a then below_zero (digits_value 10 a) else None) ≡ Some n → Spells (45 ∷ b) n
        none [] i f = cc
        none (x ∷ a) i f = absurd (omega arith)
    by (inr d) k e = let f : None ≡ Some n = sym (rw d refl) ∙ e in cc

spells : (l : List ℕ) (n : ℤ) → number l → integer_in l ≡ Some n → Spells l n
spells [] n h e = let f : None ≡ Some n = sym empty_is ∙ e in cc
spells (x ∷ b) n h e = by (cases_eq x 45)
  where
    by : (x ≡ 45) ⊎ (x ≡ 45 → ⊥) → Spells (x ∷ b) n
    by (inl i) =
        let s = minus_spells b n (subst (λ y. number (y ∷ b)) i h) (sym (ap (λ y. integer_in (y ∷ b)) i ∙ minus_is b) ∙ e) in
        subst (λ y. Spells (y ∷ b) n) (sym i) s
    by (inr i) = plain_spells x b n h (sym (plain_is x b i) ∙ e)

pub prints_its_literal : (l : List ℕ) (n : ℤ) → number l → integer_in l ≡ Some n → signed_decimal n ≡ l
prints_its_literal l n h e = (spells l n h e).text

-- a longer literal represents no integer
pub long_is_none : (l : List ℕ) → number l → 20 < length l → integer_in l ≡ None
long_is_none l h k = by (integer_in l) refl
  where
    by : (o : Option ℤ) → integer_in l ≡ o → o ≡ None
    by None e = refl
    by (Some n) e = absurd (let s = (spells l n h e).short in omega arith)

-- ---- the text of an integer

digits_are : (b : List ℕ) → all_ascii_digits b ≡ true → digits b
digits_are [] h = tt
digits_are (x ∷ b) h = (digit_of x b h, digits_are b (and_parts _ _ h).1)

decimal_part : (n : ℕ) → n < 2 ^ 64 → integer_part (decimal n)
decimal_part zero h = rw (decimal_digit 0 (omega arith)) (inl (refl, refl))
decimal_part (suc n) h = by (decimal (suc n)) (first_decimal (suc n) (omega arith) h) (digits_decimal own (suc n) h)
  where
    by : (b : List ℕ) → 48 < get_or b 0 0 → all_ascii_digits b ≡ true → integer_part b
    by [] k d = absurd (omega arith)
    by (x ∷ b) k d = let i = digit_of x b d in inr (omega arith, i.1, digits_are b (and_parts _ _ d).1)

pub decimal_number : (n : ℕ) → n < 2 ^ 64 → number (decimal n)
decimal_number n h = record { s = []; w = decimal n; f = []; e = []; row = sym (append-nil (decimal n)); is_sign = inl refl; is_integer_part = decimal_part n h; is_fraction = tt; is_exponent = tt }

pub negative_number : (n : ℕ) → suc n < 2 ^ 64 → number (45 ∷ decimal (suc n))
negative_number n h =
    record { s = 45 ∷ []; w = decimal (suc n); f = []; e = []; row = ap (λ o. 45 ∷ o) (sym (append-nil (decimal (suc n)))); is_sign = inr refl; is_integer_part = decimal_part (suc n) h; is_fraction = tt; is_exponent = tt }

pub decimal_reads : (n : ℕ) → n < 2 ^ 64 → integer_in (decimal n) ≡ Some (pos n)
decimal_reads n h = by (decimal n) (decimal_nonempty n h) (digits_decimal own n h) (digits_value-decimal own n h)
  where
    by : (b : List ℕ) → 0 < length b → all_ascii_digits b ≡ true → digits_value 10 b ≡ n → integer_in b ≡ Some (pos n)
    by [] k d v = absurd (omega arith)
    by (x ∷ b) k d v = let i = digit_of x b d in plain_is x b (λ e. omega arith) ∙ rw (d, v, lt-ltb n (2 ^ 64) h) refl

pub negative_reads : (n : ℕ) → n < 2 ^ 63 → integer_in (45 ∷ decimal (suc n)) ≡ Some (negsuc n)
negative_reads n h =
    let w : suc n < 2 ^ 64 = omega arith in
    minus_is (decimal (suc n)) ∙ rw (digits_decimal own (suc n) w, digits_value-decimal own (suc n) w, lt-ltb 0 (suc n) (omega arith), le-leb (suc n) (2 ^ 63) (omega arith)) refl

-- ---- the integers that literals represent

-- it lies in `u64`, or below 0 in `i64`
abbrev Bounded : ℤ → Type 0
Bounded (pos n) = n < 2 ^ 64
Bounded (negsuc n) = suc n ≤ 2 ^ 63

below_bounded : (v : ℕ) (n : ℤ) → below_zero v ≡ Some n → Bounded n
below_bounded v n e = let p = below_zero_some v n e in by v n p.0 p.1 p.2
  where
    by : (v : ℕ) (n : ℤ) → 0 < v → v ≤ 2 ^ 63 → neg_ℤ (pos v) ≡ n → Bounded n
    by zero n p k e = absurd (omega arith)
    by (suc v) n p k e = subst Bounded e k

from_bounded : (v : ℕ) (n : ℤ) → from_zero v ≡ Some n → Bounded n
from_bounded v n e = by (cases_lt v (2 ^ 64))
  where
    by : (v < 2 ^ 64) ⊎ (2 ^ 64 ≤ v) → Bounded n
    by (inl k) = let f : Some (pos v) ≡ Some n = sym (rw (lt-ltb v (2 ^ 64) k) refl) ∙ e in let g : pos v ≡ n = cc in subst Bounded g k
    by (inr k) = let f : None ≡ Some n = sym (rw (le-ltb v (2 ^ 64) k) refl) ∙ e in absurd (cc)

bounded : (l : List ℕ) (n : ℤ) → integer_in l ≡ Some n → Bounded n
bounded [] n e = let f : None ≡ Some n = sym empty_is ∙ e in absurd (cc)
bounded (x ∷ b) n e = by (cases_eq x 45)
  where
    if_below : (d : Bool) → (if d then below_zero (digits_value 10 b) else None) ≡ Some n → Bounded n
    if_below true f = below_bounded (digits_value 10 b) n f
    if_below false f = absurd (cc)

    if_from : (d : Bool) → (if d then from_zero (digits_value 10 (x ∷ b)) else None) ≡ Some n → Bounded n
    if_from true f = from_bounded (digits_value 10 (x ∷ b)) n f
    if_from false f = absurd (cc)

    by : (x ≡ 45) ⊎ (x ≡ 45 → ⊥) → Bounded n
    by (inl i) = if_below (all_ascii_digits b) (sym (ap (λ y. integer_in (y ∷ b)) i ∙ minus_is b) ∙ e)
    by (inr i) = if_from (all_ascii_digits (x ∷ b)) (sym (plain_is x b i) ∙ e)

-- the decimal text of an integer that it represents is a number
pub integer_number : (n : ℤ) → integer_in (signed_decimal n) ≡ Some n → number (signed_decimal n)
integer_number (pos n) e = decimal_number n (bounded _ _ e)
integer_number (negsuc n) e = let k : suc n ≤ 2 ^ 63 = bounded _ _ e in negative_number n (omega arith)
