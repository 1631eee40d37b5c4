-- Integers of few digits.
use Rattle.std.proofs.Common.{◌≡◌, ◌≢◌, ◌⊎◌, inl, inr, ◌∙◌, ℕ, zero, suc, ◌+◌, ◌-◌, ◌*◌, ◌^◌, ◌<◌, ◌≤◌, List, [], ◌∷◌, ◌++◌, length, get_or, drop, true, refl, sym, ap, subst, arith, length-take}
use Rattle.std.proofs.Math.Nat.{pow-suc, pow-le-pow_right}
use Rattle.std.proofs.lemmas.Bool.{and_parts, cases_eq}
use Rattle.std.proofs.lemmas.Bool.Decides.{nat_tests}
use Rattle.std.proofs.lemmas.Int.Digits.{digits_value_push}
use Rattle.std.proofs.lemmas.Str.Parse.{digits_value_short, numerals_by_value, tells_all_ascii_digits}
use Rattle.std.specs.Char.{is_ascii_digit, digit_value}
use Rattle.std.specs.Str.{all_ascii_digits}
use Rattle.std.specs.Str.Parse.{digits_value}
use Rattle.json_grammar.specs.Given.{piece}
use Rattle.json_grammar.specs.Grammar.{IsDigit, digits}
use Rattle.json_grammar.proofs.Moves.{piece_more, piece_none}
use Rattle.json_grammar.specs.NumberStates.{at_start}
use Rattle.json_text.specs.Numbers.{NumberTo, IntegerTo, NoDigit, BeginsNumber}
use Rattle.json_scan.specs.Runs.{ByteAt}
use Rattle.json_io.proofs.Pieces.{piece_cons}
use Rattle.json_text.proofs.Scans.{is_there_begin, integer_digits, integer_alone, fraction_none, exponent_none}

pub ascii_digit : (x : ℕ) → is_ascii_digit x ≡ true → IsDigit x
ascii_digit x h = grind (arith, nat_tests)

pub ascii_of : (x : ℕ) → IsDigit x → is_ascii_digit x ≡ true
ascii_of x d = let l = d.0 in let h = d.1 in grind (arith, nat_tests)

pub are_digits : (d : List ℕ) → all_ascii_digits d ≡ true → digits d
are_digits [] h = tt
are_digits (x ∷ d) h = let p : (is_ascii_digit x ≡ true) × (all_ascii_digits d ≡ true) = and_parts _ _ h in (ascii_digit x p.0, are_digits d p.1)

then_digit : (d : List ℕ) (x : ℕ) → all_ascii_digits d ≡ true → is_ascii_digit x ≡ true → all_ascii_digits (d ++ x ∷ []) ≡ true
then_digit [] x h k = rw k refl
then_digit (y ∷ d) x h k = let p : (is_ascii_digit y ≡ true) × (all_ascii_digits d ≡ true) = and_parts _ _ h in rw (p.0, then_digit d x p.1 k) refl

pub digits_none : (b : List ℕ) (i : ℕ) → all_ascii_digits (piece b i i) ≡ true
digits_none b i = ap all_ascii_digits (piece_none b i)

pub value_none : (b : List ℕ) (i : ℕ) → 0 ≡ digits_value 10 (piece b i i)
value_none b i = sym (ap (digits_value 10) (piece_none b i))

pub digits_more : (b : List ℕ) (i j : ℕ) → i ≤ j → j < length b → all_ascii_digits (piece b i j) ≡ true → is_ascii_digit (get_or b j 0) ≡ true → all_ascii_digits (piece b i (j + 1)) ≡ true
digits_more b i j h l d k = ap all_ascii_digits (piece_more b i j h l) ∙ then_digit (piece b i j) (get_or b j 0) d k

pub value_more : (b : List ℕ) (i j v : ℕ) → i ≤ j → j < length b → is_ascii_digit (get_or b j 0) ≡ true → v ≡ digits_value 10 (piece b i j) → v * 10 + (get_or b j 0 - 48) ≡ digits_value 10 (piece b i (j + 1))
value_more b i j v h l k e =
    let worth : digit_value (get_or b j 0) ≡ get_or b j 0 - 48 = grind (arith, nat_tests) in
    rw (piece_more b i j h l, digits_value_push 10 (piece b i j) (get_or b j 0), worth, e)

-- one digit more has room
pub room_for_digit : (n v : ℕ) → n < 19 → v < 10 ^ n → v * 10 + 9 < 2 ^ 64
room_for_digit n v h k = let m : 10 ^ n ≤ 10 ^ 18 = pow-le-pow_right (omega arith) {j = 18} (omega arith) in omega arith

pub few_more : (i j v x : ℕ) → i ≤ j → v < 10 ^ (j - i) → is_ascii_digit x ≡ true → v * 10 + (x - 48) < 10 ^ (j + 1 - i)
few_more i j v x h l k =
    let d = ascii_digit x k in
    let low = d.0 in
    let high = d.1 in
    let s : j + 1 - i ≡ suc (j - i) = omega arith in
    let p : 10 ^ (j + 1 - i) ≡ 10 ^ (j - i) * 10 = ap (λ k. 10 ^ k) s ∙ pow-suc 10 (j - i) in
    omega arith

-- digits are below a power of ten by their number
pub few_of : (b : List ℕ) (i j v : ℕ) → i ≤ j → j ≤ length b → all_ascii_digits (piece b i j) ≡ true → v ≡ digits_value 10 (piece b i j) → v < 10 ^ (j - i)
few_of b i j v h l d e = rw e (digits_value_short (numerals_by_value (λ ds. all_ascii_digits ds ≡ true) tells_all_ascii_digits) (piece b i j) (j - i) d (omega (arith, length-take (j - i) (drop i b))))

-- the first n of the digits that were counted
pub counted_digits : (b : List ℕ) (i n count : ℕ) → n ≤ count → i + n ≤ length b → ((k : ℕ) → i ≤ k → k < i + count → IsDigit (get_or b k 0)) → all_ascii_digits (piece b i (i + n)) ≡ true
counted_digits b i zero count h l d = let e : i ≡ i + 0 = omega arith in subst (λ j. all_ascii_digits (piece b i j) ≡ true) e (digits_none b i)
counted_digits b i (suc n) count h l d =
    let e : i + n + 1 ≡ i + suc n = omega arith in
    subst (λ j. all_ascii_digits (piece b i j) ≡ true) e
    (digits_more b i (i + n) (omega arith) (omega arith) (counted_digits b i n count (omega arith) (omega arith) d) (ascii_of (get_or b (i + n) 0) (d (i + n) (omega arith) (omega arith))))

-- ---- the number

no_zero : (b : List ℕ) (i e : ℕ) → i < e → e ≤ length b → digits (piece b i e) → NoDigit b e → get_or b i 0 ≢ 48 → IntegerTo b i e
no_zero b i e l w d n z = integer_digits b i i e at_start (is_there_begin b i (omega arith)) (inl refl) (record { order = l; within = w; run = d; stop = n }) (λ k. z k.1)

zero_or_more : (b : List ℕ) (i e : ℕ) → i < e → e ≤ length b → digits (piece b i e) → NoDigit b e → (get_or b i 0 ≢ 48) ⊎ (e ≤ i + 1) → IntegerTo b i e
zero_or_more b i e l w d n (inl z) = no_zero b i e l w d n z
zero_or_more b i e l w d n (inr m) = elim (cases_eq (get_or b i 0) 48) [
  | inl z ↦
      let s : e ≡ i + 1 = omega arith in
      subst (IntegerTo b i) (sym s) (integer_alone b i i at_start (is_there_begin b i (omega arith)) (inl refl) (omega arith, z) (subst (NoDigit b) s n))
  | inr z ↦ no_zero b i e l w d n z
]

pub number_of_digits : (b : List ℕ) (i e : ℕ) → i < e → e ≤ length b → all_ascii_digits (piece b i e) ≡ true → NoDigit b e → ¬ (ByteAt b e 46) → ¬ (ByteAt b e 101) → ¬ (ByteAt b e 69) → (get_or b i 0 ≢ 48) ⊎ (e ≤ i + 1) → NumberTo b i e
number_of_digits b i e l w d n dot small capital z =
    exponent_none b i e (fraction_none b i e (zero_or_more b i e l w (are_digits (piece b i e) d) n z) dot) small capital

-- a digit begins them
pub begins_digit : (b : List ℕ) (i e : ℕ) → i < e → e ≤ length b → all_ascii_digits (piece b i e) ≡ true → BeginsNumber (get_or b i 0)
begins_digit b i e l w d =
    let p : digits (get_or b i 0 ∷ piece b (i + 1) e) = subst digits (piece_cons b i e l (omega arith)) (are_digits (piece b i e) d) in
    inr p.0
