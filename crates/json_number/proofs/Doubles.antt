-- The doubles of integers: finite, and those of their literals.
use Rattle.std.proofs.Common.{◌≡◌, ◌≢◌, ◌⊎◌, inl, inr, ℕ, zero, suc, ◌*◌, ◌<◌, ◌≤◌, ◌^◌, ℤ, pos, negsuc, neg_ℤ, Bool, true, false, cond, T, if◌then◌else◌, List, [], ◌∷◌, ◌++◌, length, get_or, Some, None, Float, refl, sym, ap, ◌∙◌, subst, arith, append-nil}
use Rattle.std.proofs.lemmas.Bool.{cases_Bool, cases_lt, cases_eq, lt-ltb, le-ltb, ltb-true}
use Rattle.std.proofs.lemmas.Float.Parse.{parse_float-IsNumeral, parse_float-text_of}
use Rattle.std.proofs.lemmas.Str.Parse.{without_leading_plus_none}
use Rattle.std.specs.Float.{binary64, float_is_finite}
use Rattle.std.specs.Float.Ieee.{Format, fin, inf, le, lt, eq, round, prec, low, units, odd, of_int}
use Rattle.std.specs.Float.Numeral.{Parts, IsWellFormed}
use Rattle.std.specs.Float.Parse.{parse_float}
use Rattle.std.specs.Str.{all_ascii_digits}
use Rattle.std.specs.Str.Parse.{digits_value, AllDigits, IsNumeral}
use lib.Ieee.Order.{round_mono}
use Rattle.json_grammar.specs.Grammar.{number}
use Rattle.json_number.specs.BySign.{integer_value, is_formed}
use Rattle.json_number.specs.Floats.{float_in, double_of}
use Rattle.json_number.specs.Integers.{below_zero, from_zero, integer_in}
use Rattle.json_number.specs.Numbers.{value_of}
use Rattle.json_number.specs.declared.number.Integer.{Integer}
use Rattle.json_number.specs.declared.number.Integer.TheVariants.{Unsigned, Negative}
use Rattle.json_number.specs.declared.number.Number.{Number}
use Rattle.json_number.proofs.Floats.{back_is}
use Rattle.json_number.proofs.Integers.{own, minus_is, plain_is, empty_is, below_zero_some}
use Rattle.json_number.proofs.Literals.{no_plus}

-- ---- an integer of 64 bits is finite

odd_finite : (d : ℕ) (s : Bool) (q k l : ℕ) → float_is_finite (odd d s q k l) ≡ true
unfolding odd float_is_finite
odd_finite d s zero k l = refl
odd_finite d s (suc q) k l = refl

one_of : (c s : Bool) (x y : Float) → float_is_finite x ≡ true → float_is_finite y ≡ true → float_is_finite (cond c x (inf s)) ≡ float_is_finite (cond c y (inf false))
unfolding float_is_finite
one_of true s x y p q = p ∙ sym q
one_of false s x y p q = refl

either_sign : (f : Format) (s : Bool) (q k : ℕ) → float_is_finite (units f s q k) ≡ float_is_finite (units f false q k)
unfolding units
either_sign f s q k =
    let d = suc (prec f) in
    one_of _ s (odd d s q k (low f)) (odd d false q k (low f)) (odd_finite d s q k (low f)) (odd_finite d false q k (low f))

round_sign : (f : Format) (s : Bool) (a b : ℕ) → float_is_finite (round f s a b) ≡ float_is_finite (round f false a b)
unfolding round
round_sign f s a b = either_sign f s _ _

greatest : round binary64 false (2 ^ 64) 1 ≡ fin false 1 (pos 64)
unfolding round
greatest = refl

-- 2 ^ 64, as a bound
abbrev IsSmall : Float → Type 0
IsSmall x = T (le x (fin false 1 (pos 64)))

under : (c : Bool) (x : Float) → float_is_finite x ≡ true → IsSmall (cond c x (inf false)) → float_is_finite (cond c x (inf false)) ≡ true
unfolding le lt eq float_is_finite
under true x p h = p
under false x p h = absurd h

under_units : (f : Format) (q k : ℕ) → IsSmall (units f false q k) → float_is_finite (units f false q k) ≡ true
unfolding units
under_units f q k h = under _ (odd (suc (prec f)) false q k (low f)) (odd_finite (suc (prec f)) false q k (low f)) h

under_round : (f : Format) (a b : ℕ) → IsSmall (round f false a b) → float_is_finite (round f false a b) ≡ true
unfolding round
under_round f a b h = under_units f _ _ h

pub small_finite : (s : Bool) (n : ℕ) → n ≤ 2 ^ 64 → float_is_finite (round binary64 s n 1) ≡ true
small_finite s n h = round_sign binary64 s n 1 ∙ under_round binary64 n 1 (subst (λ z. T (le (round binary64 false n 1) z)) greatest (round_mono binary64 n 1 (2 ^ 64) 1 (omega arith) (omega arith) (omega arith)))

natural_finite : (n : ℕ) → n ≤ 2 ^ 64 → float_is_finite (double_of (pos n)) ≡ true
unfolding of_int
natural_finite n h = small_finite false n h

below_finite : (n : ℕ) → n < 2 ^ 64 → float_is_finite (double_of (negsuc n)) ≡ true
unfolding of_int
below_finite n h = small_finite true (suc n) (omega arith)

pub value_finite : (x : Number) → float_is_finite (double_of (value_of x)) ≡ true
value_finite x = by x.form x.formed
  where
    by : (f : Integer) → is_formed f ≡ true → float_is_finite (double_of (integer_value f)) ≡ true
    by (Unsigned n) p = natural_finite n (omega (arith, ltb-true _ _ p))
    by (Negative (pos n)) p = cc
    by (Negative (negsuc n)) p = below_finite n (omega (arith, ltb-true _ _ p))

-- ---- the doubles of literals

negative_is : (v : ℕ) → 0 < v → round binary64 true v 1 ≡ of_int binary64 (neg_ℤ (pos v))
unfolding of_int
negative_is zero h = absurd (omega arith)
negative_is (suc v) h = refl

parse_minus : (b : List ℕ) → AllDigits 10 b → 0 < length b → parse_float binary64 (45 ∷ b) ≡ Some (round binary64 true (digits_value 10 b) 1)
parse_minus b d l =
    let p : Parts = record { whole = b; point = false; fraction = []; exponent_negative = false; exponent = []; len = length (b ++ []) } in
    let w : IsWellFormed p = record { whole_digits = d; fraction_digits = tt; exponent_digits = tt; no_point = λ e. refl; no_exponent = λ e. refl; len_is = refl } in
    let one : digits_value 10 (b ++ []) * 1 ≡ digits_value 10 (b ++ []) = omega arith in
    let r : parse_float binary64 (45 ∷ (b ++ [])) ≡ Some (round binary64 true (digits_value 10 (b ++ [])) 1) = parse_float-text_of binary64 true p w l ∙ ap (λ m. Some (round binary64 true m 1)) one in
    subst (λ t. parse_float binary64 (45 ∷ t) ≡ Some (round binary64 true (digits_value 10 t) 1)) (append-nil b) r

parse_digits : (l : List ℕ) → get_or l 0 0 ≢ 43 → AllDigits 10 l → 0 < length l → parse_float binary64 l ≡ Some (of_int binary64 (pos (digits_value 10 l)))
parse_digits l h d s =
    let w = without_leading_plus_none l h in
    subst (λ t. parse_float binary64 l ≡ Some (of_int binary64 (pos (digits_value 10 t)))) w (parse_float-IsNumeral binary64 l (subst (IsNumeral 10) (sym w) (s, d)))

of_minus : (b : List ℕ) (z : ℤ) → (if all_ascii_digits b then below_zero (digits_value 10 b) else None) ≡ Some z → float_in binary64 (45 ∷ b) ≡ Some (double_of z)
of_minus [] z e = let q = below_zero_some 0 z e in absurd (omega (arith, q.0))
of_minus (x ∷ b) z e = by (cases_Bool (all_ascii_digits (x ∷ b)))
  where
    by : (all_ascii_digits (x ∷ b) ≡ true) ⊎ (all_ascii_digits (x ∷ b) ≡ false) → float_in binary64 (45 ∷ x ∷ b) ≡ Some (double_of z)
    by (inl d) =
        let v = digits_value 10 (x ∷ b) in
        let f : below_zero v ≡ Some z = sym (rw d refl) ∙ e in
        let q = below_zero_some v z f in
        back_is binary64 (45 ∷ x ∷ b) (double_of z) (subst (λ o. float_is_finite o ≡ true) (negative_is v q.0 ∙ ap (of_int binary64) q.2) (small_finite true v (omega (arith, q.1))))
        (parse_minus (x ∷ b) (own.to (x ∷ b) d) (omega arith) ∙ ap Some (negative_is v q.0 ∙ ap (of_int binary64) q.2))
    by (inr d) = let f : None ≡ Some z = sym (rw d refl) ∙ e in cc

of_plain : (x : ℕ) (b : List ℕ) (z : ℤ) → get_or (x ∷ b) 0 0 ≢ 43 → (if all_ascii_digits (x ∷ b) then from_zero (digits_value 10 (x ∷ b)) else None) ≡ Some z → float_in binary64 (x ∷ b) ≡ Some (double_of z)
of_plain x b z p e = by (cases_Bool (all_ascii_digits (x ∷ b))) (cases_lt (digits_value 10 (x ∷ b)) (2 ^ 64))
  where
    by : (all_ascii_digits (x ∷ b) ≡ true) ⊎ (all_ascii_digits (x ∷ b) ≡ false) → (digits_value 10 (x ∷ b) < 2 ^ 64) ⊎ (2 ^ 64 ≤ digits_value 10 (x ∷ b)) → float_in binary64 (x ∷ b) ≡ Some (double_of z)
    by (inl d) (inl k) =
        let f : Some (pos (digits_value 10 (x ∷ b))) ≡ Some z = sym (rw (d, lt-ltb _ _ k) refl) ∙ e in
        let g : pos (digits_value 10 (x ∷ b)) ≡ z = cc in
        back_is binary64 (x ∷ b) (double_of z) (subst (λ o. float_is_finite (double_of o) ≡ true) g (natural_finite (digits_value 10 (x ∷ b)) (omega arith)))
        (parse_digits (x ∷ b) p (own.to (x ∷ b) d) (omega arith) ∙ ap (λ o. Some (double_of o)) g)
    by (inl d) (inr k) = let f : None ≡ Some z = sym (rw (d, le-ltb _ _ k) refl) ∙ e in cc
    by (inr d) k = let f : None ≡ Some z = sym (rw d refl) ∙ e in cc

pub integer_double : (l : List ℕ) (z : ℤ) → number l → integer_in l ≡ Some z → float_in binary64 l ≡ Some (double_of z)
integer_double [] z n e = let f : None ≡ Some z = sym empty_is ∙ e in cc
integer_double (x ∷ b) z n e = by (cases_eq x 45)
  where
    by : (x ≡ 45) ⊎ (x ≢ 45) → float_in binary64 (x ∷ b) ≡ Some (double_of z)
    by (inl m) = subst (λ y. float_in binary64 (y ∷ b) ≡ Some (double_of z)) (sym m) (of_minus b z (sym (minus_is b) ∙ ap (λ y. integer_in (y ∷ b)) (sym m) ∙ e))
    by (inr m) = of_plain x b z (no_plus (x ∷ b) n) (sym (plain_is x b m) ∙ e)
