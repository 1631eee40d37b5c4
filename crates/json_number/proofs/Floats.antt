-- The text of a number writes a float, the one nearest to it; and the shape of a printed float is that of a number.
use Rattle.std.proofs.Common.{◌≡◌, ◌≢◌, ◌⊎◌, inl, inr, ℕ, suc, ◌+◌, ◌-◌, ◌*◌, ◌^◌, ◌<◌, Bool, true, false, cond, eqb, ◌==◌, ◌&&◌, ◌||◌, List, [], ◌∷◌, ◌++◌, length, get_or, take, drop, Some, Float, option_and_then, refl, sym, ap, ◌∙◌, subst, arith, append_assoc, append-nil}
use Rattle.std.proofs.lemmas.Bool.{ne_eqb, eq-eqb, le-leb, lt-ltb, eqb-true, both_ways}
use Rattle.std.proofs.lemmas.List.{drop_at, take_at, get_or-append-add, length-append}
use Rattle.std.proofs.Math.Seq.{drop-append-add}
use Rattle.std.proofs.lemmas.Str.Parse.{digit_from_value}
use Rattle.std.specs.Prelude.{slice_range, slice_index}
use Rattle.std.specs.Char.{is_ascii_digit}
use Rattle.std.specs.Fmt.{sign_text}
use Rattle.std.specs.Str.Parse.{digits_value, AllDigits}
use Rattle.std.specs.Float.{Format, float_is_finite}
use Rattle.std.specs.Float.Ieee.{round}
use Rattle.std.specs.Float.Numeral.{Parts, digits_len, digits_end, exponent_start, has_exponent, scan_numeral, exponent_text}
use Rattle.std.specs.Float.Parse.{read_float, parse_float}
use Rattle.json_grammar.specs.Grammar.{IsDigit, digits, some_digits, sign, integer_part, fraction, exponent_sign, exponent, number}
use Rattle.json_number.specs.Floats.{has_minus, after_sign, places_up, places_down, if_finite, float_in, nearest_float}
use Rattle.ryu.specs.Plain.{IsPlainNumber}

-- ---- runs of digits

ascii_true : (x : ℕ) → IsDigit x → is_ascii_digit x ≡ true
ascii_true x h = rw (le-leb 48 x h.0, le-leb x 57 h.1)

digits_run : (d r : List ℕ) → digits d → digits_len r ≡ 0 → digits_len (d ++ r) ≡ length d
digits_run [] r h e = e
digits_run (x ∷ d) r h e = rw (ascii_true x h.0) (omega (arith, digits_run d r h.1 e))

digits_all : (d : List ℕ) → digits d → digits_len d ≡ length d
digits_all d h = subst (λ z. digits_len z ≡ length d) (append-nil d) (digits_run d [] h refl)

take_all : (d : List ℕ) (n : ℕ) → length d ≡ n → take n d ≡ d
take_all d n e = subst (λ z. take n z ≡ d) (append-nil d) (take_at d [] n e)

after : (front r : List ℕ) (i k : ℕ) → length front ≡ i → get_or (front ++ r) (i + k) 0 ≡ get_or r k 0
after front r i k e = rw (← e) (get_or-append-add front r k 0)

at_end : (front r : List ℕ) (i : ℕ) → length front ≡ i → get_or (front ++ r) i 0 ≡ get_or r 0 0
at_end front r i e = let z : i + 0 ≡ i = omega arith in subst (λ k. get_or (front ++ r) k 0 ≡ get_or r 0 0) z (after front r i 0 e)

rest_is : (front r : List ℕ) (i k : ℕ) → length front ≡ i → drop (i + k) (front ++ r) ≡ drop k r
rest_is front r i k e = rw (← e) (drop-append-add front r k)

run_end : (front d r : List ℕ) (i : ℕ) → length front ≡ i → digits d → digits_len r ≡ 0 → digits_end (front ++ (d ++ r)) i ≡ i + length d
run_end front d r i e h s = rw (drop_at front (d ++ r) i e, digits_run d r h s)

run_is : (front d r : List ℕ) (i : ℕ) → length front ≡ i → slice_range (front ++ (d ++ r)) i (i + length d) ≡ d
run_is front d r i e = rw (drop_at front (d ++ r) i e) (take_at d r (i + length d - i) (omega arith))

stop : (x : ℕ) (b : List ℕ) → (x ≡ 46) ⊎ ((x ≡ 101) ⊎ (x ≡ 69)) → digits_len (x ∷ b) ≡ 0
stop x b (inl e) = rw e refl
stop x b (inr (inl e)) = rw e refl
stop x b (inr (inr e)) = rw e refl

letter_true : (x : ℕ) → (x ≡ 101) ⊎ (x ≡ 69) → ((x == 101) || (x == 69)) ≡ true
letter_true x (inl e) = rw e refl
letter_true x (inr e) = rw e refl

letter_no_dot : (x : ℕ) → (x ≡ 101) ⊎ (x ≡ 69) → (x == 46) ≡ false
letter_no_dot x (inl e) = rw e refl
letter_no_dot x (inr e) = rw e refl

ends_digits : (e : List ℕ) → exponent e → digits_len e ≡ 0
ends_digits [] h = refl
ends_digits (x ∷ b) h = stop x b (inr h.0)

no_dot : (e : List ℕ) → exponent e → eqb (get_or e 0 0) 46 ≡ false
no_dot [] h = refl
no_dot (x ∷ b) h = letter_no_dot x h.0

some_are : (d : List ℕ) → some_digits d → digits d
some_are [] h = absurd h
some_are (x ∷ d) h = h

-- ---- the exponent part

abbrev exponent_negative : List ℕ → Bool
exponent_negative [] = false
exponent_negative (x ∷ b) = has_minus b

abbrev exponent_digits : List ℕ → List ℕ
exponent_digits [] = []
exponent_digits (x ∷ b) = after_sign b

ups : (e : List ℕ) → cond (exponent_negative e) 0 (digits_value 10 (exponent_digits e)) ≡ places_up e
ups [] = refl
ups (x ∷ b) = refl

downs : (e : List ℕ) → cond (exponent_negative e) (digits_value 10 (exponent_digits e)) 0 ≡ places_down e
downs [] = refl
downs (x ∷ b) = refl

abbrev Tail : List ℕ → ℕ → Bool → List ℕ → Type 0
Tail bs b negative q =
    ((has_exponent bs b && eqb (get_or bs (b + 1) 0) 45) ≡ negative)
    × (cond (has_exponent bs b) (slice_range bs (exponent_start bs b) (digits_end bs (exponent_start bs b))) [] ≡ q)
    × (cond (has_exponent bs b) (digits_end bs (exponent_start bs b)) b ≡ length bs)

tail_of : (bs : List ℕ) (b c : ℕ) (negative : Bool) (q : List ℕ) → has_exponent bs b ≡ true → exponent_start bs b ≡ c → eqb (get_or bs (b + 1) 0) 45 ≡ negative
    → drop c bs ≡ q → digits q → c + length q ≡ length bs → Tail bs b negative q
tail_of bs b c negative q has start m rest h long =
    let end : digits_end bs c ≡ c + length q = rw (rest, digits_all q h) in
    let is : slice_range bs c (c + length q) ≡ q = rw rest (take_all q (c + length q - c) (omega arith)) in
    (rw has m, rw (has, start, end) is, rw (has, start, end) long)

module _ (front : List ℕ) (b : ℕ) (at : length front ≡ b) (x : ℕ) (letter : (x ≡ 101) ⊎ (x ≡ 69)) where
  bare : (d : List ℕ) → some_digits d → Tail (front ++ x ∷ d) b (has_minus d) (after_sign d)
  bare [] h = absurd h
  bare (y ∷ d) h =
      let bs = front ++ x ∷ y ∷ d in
      let i = ne_eqb y 45 (λ e. omega (arith, h.0.0, h.0.1)) in
      let j = ne_eqb y 43 (λ e. omega (arith, h.0.0, h.0.1)) in
      let next : get_or bs (b + 1) 0 ≡ y = after front _ b 1 at in
      let start : exponent_start bs b ≡ b + 1 = rw (next, i, j) in
      let alone : after_sign (y ∷ d) ≡ y ∷ d = rw (i, j) in
      subst (Tail bs b (has_minus (y ∷ d))) (sym alone)
      (tail_of bs b (b + 1) (eqb y 45) (y ∷ d) (rw (start, next, at_end front (x ∷ y ∷ d) b at, letter_true x letter) (ascii_true y h.0)) start (rw next) (rest_is front (x ∷ y ∷ d) b 1 at) h (omega (arith, at, length-append front (x ∷ y ∷ d))))

  minus : (d : List ℕ) → some_digits d → Tail (front ++ x ∷ 45 ∷ d) b true d
  minus [] h = absurd h
  minus (y ∷ d) h =
      let bs = front ++ x ∷ 45 ∷ y ∷ d in
      let next : get_or bs (b + 1) 0 ≡ 45 = after front _ b 1 at in
      let start : exponent_start bs b ≡ b + 2 = rw next in
      tail_of bs b (b + 2) true (y ∷ d) (rw (start, after front (x ∷ 45 ∷ y ∷ d) b 2 at, at_end front (x ∷ 45 ∷ y ∷ d) b at, letter_true x letter) (ascii_true y h.0)) start (rw next) (rest_is front (x ∷ 45 ∷ y ∷ d) b 2 at) h
      (omega (arith, at, length-append front (x ∷ 45 ∷ y ∷ d)))

  plus : (d : List ℕ) → some_digits d → Tail (front ++ x ∷ 43 ∷ d) b false d
  plus [] h = absurd h
  plus (y ∷ d) h =
      let bs = front ++ x ∷ 43 ∷ y ∷ d in
      let next : get_or bs (b + 1) 0 ≡ 43 = after front _ b 1 at in
      let start : exponent_start bs b ≡ b + 2 = rw next in
      tail_of bs b (b + 2) false (y ∷ d) (rw (start, after front (x ∷ 43 ∷ y ∷ d) b 2 at, at_end front (x ∷ 43 ∷ y ∷ d) b at, letter_true x letter) (ascii_true y h.0)) start (rw next) (rest_is front (x ∷ 43 ∷ y ∷ d) b 2 at) h
      (omega (arith, at, length-append front (x ∷ 43 ∷ y ∷ d)))

  signed : (s d : List ℕ) → exponent_sign s → some_digits d → Tail (front ++ x ∷ (s ++ d)) b (has_minus (s ++ d)) (after_sign (s ++ d))
  signed s d (inl e) h = subst (λ z. Tail (front ++ x ∷ (z ++ d)) b (has_minus (z ++ d)) (after_sign (z ++ d))) (sym e) (bare d h)
  signed s d (inr (inl e)) h = subst (λ z. Tail (front ++ x ∷ (z ++ d)) b (has_minus (z ++ d)) (after_sign (z ++ d))) (sym e) (plus d h)
  signed s d (inr (inr e)) h = subst (λ z. Tail (front ++ x ∷ (z ++ d)) b (has_minus (z ++ d)) (after_sign (z ++ d))) (sym e) (minus d h)

tail : (front e : List ℕ) (b : ℕ) → length front ≡ b → exponent e → Tail (front ++ e) b (exponent_negative e) (exponent_digits e)
tail front [] b at h =
    let has : has_exponent (front ++ []) b ≡ false = rw (at_end front [] b at) in
    (rw has, rw has, rw (has, append-nil) (sym at))
tail front (x ∷ t) b at h = subst (λ z. Tail (front ++ x ∷ z) b (has_minus z) (after_sign z)) (sym h.1.2) (signed front b at x h.0 h.1.0 h.1.1 h.1.3 h.1.4)

-- ---- the whole numeral

abbrev has_some : List ℕ → Bool
has_some [] = false
has_some (x ∷ b) = true

abbrev parts_of : List ℕ → List ℕ → List ℕ → Parts
parts_of w f e = record { whole = w; point = has_some f; fraction = drop 1 f; exponent_negative = exponent_negative e; exponent = exponent_digits e; len = length (w ++ (f ++ e)) }

scan_is : (bs w g q : List ℕ) (point negative : Bool) (a b : ℕ) → digits_end bs 0 ≡ a → eqb (get_or bs a 0) 46 ≡ point → cond point (digits_end bs (a + 1)) a ≡ b
    → slice_range bs 0 a ≡ w → cond point (slice_range bs (a + 1) b) [] ≡ g → Tail bs b negative q
    → scan_numeral bs ≡ record { whole = w; point = point; fraction = g; exponent_negative = negative; exponent = q; len = length bs }
unfolding scan_numeral
scan_is bs w g q point negative a b ea ep eb ew eg t =
    rw (ea, ep, eb) (λ i. record { whole = ew i; point = point; fraction = eg i; exponent_negative = t.0 i; exponent = t.1 i; len = t.2 i })

scan_parts : (w f e : List ℕ) → digits w → fraction f → exponent e → scan_numeral (w ++ (f ++ e)) ≡ parts_of w f e
scan_parts w [] e hw hf he =
    let a = 0 + length w in
    let long : length w ≡ a = omega arith in
    scan_is (w ++ e) w [] (exponent_digits e) false (exponent_negative e) a a (run_end [] w e 0 refl hw (ends_digits e he)) (rw (at_end w e a long) (no_dot e he)) refl (run_is [] w e 0 refl) refl (tail w e a long he)
scan_parts w (x ∷ g) e hw hf he = subst (λ z. scan_numeral (w ++ (z ∷ (g ++ e))) ≡ parts_of w (z ∷ g) e) (sym hf.0) dotted
  where
    dotted : scan_numeral (w ++ (46 ∷ (g ++ e))) ≡ parts_of w (46 ∷ g) e
    dotted =
        let a = 0 + length w in
        let long : length w ≡ a = omega arith in
        let cut : (w ++ 46 ∷ []) ++ (g ++ e) ≡ w ++ 46 ∷ (g ++ e) = append_assoc w (46 ∷ []) (g ++ e) in
        let longer : length (w ++ 46 ∷ []) ≡ a + 1 = omega (arith, length-append w (46 ∷ [])) in
        let front : (w ++ 46 ∷ g) ++ e ≡ w ++ 46 ∷ (g ++ e) = append_assoc w (46 ∷ g) e in
        scan_is (w ++ 46 ∷ (g ++ e)) w g (exponent_digits e) true (exponent_negative e) a (a + 1 + length g) (run_end [] w (46 ∷ (g ++ e)) 0 refl hw refl) (rw (at_end w (46 ∷ (g ++ e)) a long))
        (subst (λ z. digits_end z (a + 1) ≡ a + 1 + length g) cut (run_end (w ++ 46 ∷ []) g e (a + 1) longer (some_are g hf.1) (ends_digits e he))) (run_is [] w (46 ∷ (g ++ e)) 0 refl)
        (subst (λ z. slice_range z (a + 1) (a + 1 + length g) ≡ g) cut (run_is (w ++ 46 ∷ []) g e (a + 1) longer))
        (subst (λ z. Tail z (a + 1 + length g) (exponent_negative e) (exponent_digits e)) front (tail (w ++ 46 ∷ g) e (a + 1 + length g) (omega (arith, length-append w (46 ∷ g))) he))

-- ---- the float

whole_digits : (w : List ℕ) → integer_part w → digits w
whole_digits [] h = absurd h
whole_digits (x ∷ w) (inl h) = rw h.1 ((omega (arith, h.0), omega (arith, h.0)), tt)
whole_digits (x ∷ w) (inr h) = ((omega (arith, h.0), h.1), h.2)

some_whole : (w : List ℕ) → integer_part w → 0 < length w
some_whole [] h = absurd h
some_whole (x ∷ w) h = omega arith

abbrev nearest : Format → Bool → List ℕ → List ℕ → List ℕ → Type 0
nearest k negative w f e = parse_float k (sign_text negative ++ (w ++ (f ++ e))) ≡ Some (round k negative (digits_value 10 (w ++ drop 1 f) * 10 ^ places_up e) (10 ^ (length (drop 1 f) + places_down e)))

below : (k : Format) (w f e : List ℕ) → integer_part w → fraction f → exponent e → nearest k true w f e
unfolding read_float
below k w f e hw hf he =
    rw (scan_parts w f e (whole_digits w hw) hf he, lt-ltb 0 (length w + length (drop 1 f)) (omega (arith, some_whole w hw)), eq-eqb (1 + length (w ++ (f ++ e))) (suc (length (w ++ (f ++ e)))) (omega arith), ups e, downs e)

above : (k : Format) (w f e : List ℕ) → integer_part w → fraction f → exponent e → nearest k false w f e
unfolding read_float
above k [] f e hw hf he = absurd hw
above k (x ∷ w) f e hw hf he =
    let d = whole_digits (x ∷ w) hw in
    rw (ne_eqb x 45 (λ i. omega (arith, d.0.0)), ne_eqb x 43 (λ i. omega (arith, d.0.0)), scan_parts (x ∷ w) f e d hf he, lt-ltb 0 (length (x ∷ w) + length (drop 1 f)) (omega arith), eq-eqb (0 + length (x ∷ w ++ (f ++ e))) (length (x ∷ w ++ (f ++ e))) (omega arith), ups e, downs e)

-- a number writes the float nearest to it
pub number_float : (k : Format) (b : List ℕ) (n : number b) → parse_float k b ≡ Some (nearest_float k b n)
number_float k b n = ap (parse_float k) n.row ∙ by n.s n.is_sign
  where
    by : (s : List ℕ) → sign s → parse_float k (s ++ (n.w ++ (n.f ++ n.e))) ≡ Some (round k (has_minus s) (digits_value 10 (n.w ++ drop 1 n.f) * 10 ^ places_up n.e) (10 ^ (length (drop 1 n.f) + places_down n.e)))
    by s (inl e) = rw e (above k n.w n.f n.e n.is_integer_part n.is_fraction n.is_exponent)
    by s (inr e) = rw e (below k n.w n.f n.e n.is_integer_part n.is_fraction n.is_exponent)

pub nearest_is : (k : Format) (b : List ℕ) (n : number b) → float_in k b ≡ if_finite (nearest_float k b n)
nearest_is k b n = ap (option_and_then if_finite) (number_float k b n)

-- ---- the shape of a printed float

digit_of : (x : ℕ) (d : List ℕ) → AllDigits 10 (x ∷ d) → IsDigit x
digit_of x d h = let r = digit_from_value x h.0 in (r.0, r.1)

are_digits : (d : List ℕ) → AllDigits 10 d → digits d
are_digits [] h = tt
are_digits (x ∷ d) h = (digit_of x d h, are_digits d h.1)

are_some : (d : List ℕ) → AllDigits 10 d → 0 < length d → some_digits d
are_some [] h l = absurd (omega arith)
are_some (x ∷ d) h l = (digit_of x d h, are_digits d h.1)

alone : (x : ℕ) (w : List ℕ) → length (x ∷ w) ≡ 1 → w ≡ []
alone x [] e = refl
alone x (y ∷ w) e = absurd (omega (arith, e))

is_whole : (w : List ℕ) → AllDigits 10 w → 0 < length w → (slice_index w 0 ≡ 48 → length w ≡ 1) → integer_part w
is_whole [] h l z = absurd (omega arith)
is_whole (x ∷ w) h l z = by (eqb x 48) refl
  where
    by : (c : Bool) → eqb x 48 ≡ c → integer_part (x ∷ w)
    by true e = let s : x ≡ 48 = eqb-true x 48 e in inl (s, alone x w (z s))
    by false e = let d = digit_of x w h in let k : x ≢ 48 = λ s. both_ways _ e (eq-eqb x 48 s) in inr (omega (arith, d.0), d.1, are_digits w h.1)

is_sign_text : (m : Bool) → sign (sign_text m)
is_sign_text true = inr refl
is_sign_text false = inl refl

is_fraction_text : (p : Bool) (g : List ℕ) → AllDigits 10 g → (p ≡ true → 0 < length g) → fraction (cond p (46 ∷ g) [])
is_fraction_text true g h l = (refl, are_some g h (l refl))
is_fraction_text false g h l = tt

is_exponent_text : (m : Bool) (q : List ℕ) → AllDigits 10 q → exponent (exponent_text m q)
is_exponent_text m [] h = tt
is_exponent_text true (x ∷ q) h = (inl refl, (45 ∷ [], x ∷ q, refl, inr (inr refl), are_some (x ∷ q) h (omega arith)))
is_exponent_text false (x ∷ q) h = (inl refl, ([], x ∷ q, refl, inl refl, are_some (x ∷ q) h (omega arith)))

-- a printed float is a number
pub plain_number : (b : List ℕ) → IsPlainNumber b → number b
plain_number b (m, p, row, h) =
    record {
      s = sign_text m;
      w = p.whole;
      f = cond p.point (46 ∷ p.fraction) [];
      e = exponent_text p.exponent_negative p.exponent;
      row = row;
      is_sign = is_sign_text m;
      is_integer_part = is_whole p.whole h.well_formed.whole_digits h.whole h.no_leading_zero;
      is_fraction = is_fraction_text p.point p.fraction h.well_formed.fraction_digits h.fraction;
      is_exponent = is_exponent_text p.exponent_negative p.exponent h.well_formed.exponent_digits;
    }

-- ---- there and back

pub back_is : (k : Format) (b : List ℕ) (x : Float) → float_is_finite x ≡ true → parse_float k b ≡ Some x → float_in k b ≡ Some x
back_is k b x f e = ap (option_and_then if_finite) e ∙ rw f refl

pub nearest_of : (k : Format) (b : List ℕ) (n : number b) (x : Float) → parse_float k b ≡ Some x → nearest_float k b n ≡ x
nearest_of k b n x e = let s : Some (nearest_float k b n) ≡ Some x = sym (number_float k b n) ∙ e in cc
