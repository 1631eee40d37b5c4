-- Digits that take two words.
use Rattle.std.proofs.Common.{◌≡◌, inl, inr, ℕ, zero, suc, ◌+◌, ◌-◌, ◌*◌, ◌^◌, ◌<◌, ◌≤◌, List, length, get_or, true, false, sym, ap, subst, ◌∙◌, arith}
use Rattle.std.proofs.Math.Nat.{mul_assoc, mul-le-mul_left, pow-suc, pow-le-pow_right}
use Rattle.std.proofs.lemmas.Int.Digits.{digits_value_push}
use Rattle.std.proofs.lemmas.Bool.{cases_Bool}
use Rattle.std.specs.Char.{digit_value}
use Rattle.std.specs.Str.{all_ascii_digits}
use Rattle.std.specs.Str.Parse.{digits_value}
use Rattle.json_grammar.specs.Given.{piece}
use Rattle.json_grammar.specs.Grammar.{IsDigit}
use Rattle.json_grammar.proofs.Moves.{piece_more}
use Rattle.json_text.proofs.Integers.{are_digits, value_none, few_of, counted_digits}
use Rattle.json_text.proofs.ShortIntegers.{digit_within}

-- a part of a run of digits is one
pub part_digits : (b : List ℕ) (i e j n : ℕ) → i ≤ j → j + n ≤ e → e ≤ length b → all_ascii_digits (piece b i e) ≡ true → all_ascii_digits (piece b j (j + n)) ≡ true
part_digits b i e j n h l m d = counted_digits b j n n (omega arith) (omega arith) (λ k u v. digit_within b i k e (omega arith) (omega arith) m (are_digits (piece b i e) d))

shifted : (a p q v w x s t : ℕ) → q ≡ p * 10 → v ≡ a * p + w → s ≡ v * 10 + x → t ≡ w * 10 + x → s ≡ a * q + t
shifted a p q v w x s t f g h k =
    let m : a * q ≡ a * p * 10 = ap (λ y. a * y) f ∙ sym (mul_assoc a p 10) in
    omega arith

-- digits in front of n more are worth as many places more
pub value_of_two : (b : List ℕ) (i j n : ℕ) → i ≤ j → j + n ≤ length b → digits_value 10 (piece b i (j + n)) ≡ digits_value 10 (piece b i j) * 10 ^ n + digits_value 10 (piece b j (j + n))
value_of_two b i j zero h l =
    let e : j ≡ j + 0 = omega arith in
    let z = value_none b j in
    subst (λ k. digits_value 10 (piece b i k) ≡ digits_value 10 (piece b i j) * 10 ^ 0 + digits_value 10 (piece b j k)) e (omega arith)
value_of_two b i j (suc n) h l =
    let e : j + n + 1 ≡ j + suc n = omega arith in
    let x = get_or b (j + n) 0 in
    let before = value_of_two b i j n h (omega arith) in
    let s : digits_value 10 (piece b i (j + n + 1)) ≡ digits_value 10 (piece b i (j + n)) * 10 + digit_value x = ap (digits_value 10) (piece_more b i (j + n) (omega arith) (omega arith)) ∙ digits_value_push 10 (piece b i (j + n)) x in
    let t : digits_value 10 (piece b j (j + n + 1)) ≡ digits_value 10 (piece b j (j + n)) * 10 + digit_value x = ap (digits_value 10) (piece_more b j (j + n) (omega arith) (omega arith)) ∙ digits_value_push 10 (piece b j (j + n)) x in
    subst (λ k. digits_value 10 (piece b i k) ≡ digits_value 10 (piece b i j) * 10 ^ suc n + digits_value 10 (piece b j k)) e
    (shifted (digits_value 10 (piece b i j)) (10 ^ n) (10 ^ suc n) _ _ (digit_value x) _ _ (pow-suc 10 n) before s t)

-- eight digits are below 10^8
pub word_small : (b : List ℕ) (i n v : ℕ) → n ≤ 8 → i + n ≤ length b → all_ascii_digits (piece b i (i + n)) ≡ true → v ≡ digits_value 10 (piece b i (i + n)) → v < 100000000
word_small b i n v h l d e =
    let f = few_of b i (i + n) v (omega arith) l d e in
    let s : i + n - i ≡ n = omega arith in
    let m : 10 ^ n ≤ 10 ^ 8 = pow-le-pow_right (omega arith) {j = 8} h in
    let k : v < 10 ^ n = subst (λ j. v < 10 ^ j) s f in
    omega arith

pub small_power : (n : ℕ) → n ≤ 8 → 10 ^ n ≤ 100000000
small_power n h = pow-le-pow_right (omega arith) {j = 8} h

pub two_words_fit : (v w p : ℕ) → v < 100000000 → w < 100000000 → p ≤ 100000000 → v * p + w < 2 ^ 64
two_words_fit v w p h k l = let m : v * p ≤ v * 100000000 = mul-le-mul_left v l in omega arith

-- no run of digits has another byte
pub not_digits : (b : List ℕ) (i k j : ℕ) → i ≤ k → k < j → j ≤ length b → ¬ (IsDigit (get_or b k 0)) → all_ascii_digits (piece b i j) ≡ false
not_digits b i k j h l m n = elim (cases_Bool (all_ascii_digits (piece b i j))) [
  | inl e ↦ absurd (n (digit_within b i k j h l m (are_digits (piece b i j) e)))
  | inr e ↦ e
]
