-- Digits in a word of eight bytes, the first the highest.
use Rattle.std.proofs.Common.{◌≡◌, ℕ, zero, suc, ◌+◌, ◌-◌, ◌*◌, ◌/◌, ◌%◌, ◌^◌, ◌<◌, ◌≤◌, List, length, get_or, true, Fits, w8, refl, sym, ap, subst, arith}
use Rattle.std.proofs.Math.Nat.{div-le_self}
use Rattle.std.specs.Str.{all_ascii_digits}
use Rattle.std.specs.Str.Parse.{digits_value}
use Rattle.json_grammar.specs.Given.{piece}
use Rattle.json_grammar.specs.Grammar.{IsDigit}
use Rattle.json_text.proofs.Integers.{ascii_of, are_digits, value_none, value_more}
use Rattle.json_text.proofs.ShortIntegers.{digit_within}

-- ---- digits as a number in base 256

-- a number whose bytes are digits, which write v
pub record BytesOf (bytes v : ℕ) : Type 0 where
  pub a : ℕ
  pub b : ℕ
  pub c : ℕ
  pub d : ℕ
  pub e : ℕ
  pub f : ℕ
  pub g : ℕ
  pub h : ℕ
  pub bound : (a ≤ 9) × (b ≤ 9) × (c ≤ 9) × (d ≤ 9) × (e ≤ 9) × (f ≤ 9) × (g ≤ 9) × (h ≤ 9)
  pub bytes_are : bytes ≡ a + 256 * b + 65536 * c + 16777216 * d + 4294967296 * e + 1099511627776 * f + 281474976710656 * g + 72057594037927936 * h
  pub value_is : v ≡ a + 10 * b + 100 * c + 1000 * d + 10000 * e + 100000 * f + 1000000 * g + 10000000 * h

none_yet : BytesOf 0 0
none_yet = record { a = 0; b = 0; c = 0; d = 0; e = 0; f = 0; g = 0; h = 0; bound = (omega arith, omega arith, omega arith, omega arith, omega arith, omega arith, omega arith, omega arith); bytes_are = omega arith; value_is = omega arith }

next_digit : (n v x : ℕ) → BytesOf n v → n < 72057594037927936 → x ≤ 9 → BytesOf (n * 256 + x) (v * 10 + x)
next_digit n v x r l k =
    let b = r.bound in let s = r.bytes_are in let t = r.value_is in
    let z : r.h ≡ 0 = omega arith in
    record { a = x; b = r.a; c = r.b; d = r.c; e = r.d; f = r.e; g = r.f; h = r.g; bound = (k, b.0, b.1, b.2, b.3, b.4, b.5, b.6); bytes_are = omega arith; value_is = omega arith }

-- two digits a byte
abbrev pub pairs : ℕ → ℕ
pairs n = n + n / 256 * 10

pub pairs_fit : (n v : ℕ) → BytesOf n v → pairs n < 2 ^ 64
pairs_fit n v r = let b = r.bound in let s = r.bytes_are in omega arith

pub pairs_value : (n v : ℕ) → BytesOf n v → pairs n % 256 + pairs n / 65536 % 256 * 100 + pairs n / 4294967296 % 256 * 10000 + pairs n / 281474976710656 % 256 * 1000000 ≡ v
pairs_value n v r =
    let k = r.bound in let s = r.bytes_are in let t = r.value_is in
    let q : n / 256 ≡ r.b + 256 * r.c + 65536 * r.d + 16777216 * r.e + 4294967296 * r.f + 1099511627776 * r.g + 281474976710656 * r.h = omega arith in
    let w : pairs n % 256 ≡ r.a + 10 * r.b = omega arith in
    let x : pairs n / 65536 % 256 ≡ r.c + 10 * r.d = omega arith in
    let y : pairs n / 4294967296 % 256 ≡ r.e + 10 * r.f = omega arith in
    let z : pairs n / 281474976710656 % 256 ≡ r.g + 10 * r.h = omega arith in
    omega arith

-- ---- the fronts of a word

-- eight bytes, the first the highest
abbrev pub word : (ℕ → ℕ) → ℕ
word f = f 0 * 72057594037927936 + f 1 * 281474976710656 + f 2 * 1099511627776 + f 3 * 4294967296 + f 4 * 16777216 + f 5 * 65536 + f 6 * 256 + f 7

-- the first n of them
abbrev pub front : ℕ → ℕ → ℕ
front w n = w / 2 ^ (64 - 8 * n)

next_byte : (f : ℕ → ℕ) → ((k : ℕ) → f k < 256) → (n : ℕ) → n < 8 → front (word f) (suc n) ≡ front (word f) n * 256 + f n
next_byte f h zero l = omega (arith, h 0, h 1, h 2, h 3, h 4, h 5, h 6, h 7)
next_byte f h (suc zero) l = omega (arith, h 0, h 1, h 2, h 3, h 4, h 5, h 6, h 7)
next_byte f h (suc (suc zero)) l = omega (arith, h 0, h 1, h 2, h 3, h 4, h 5, h 6, h 7)
next_byte f h (suc (suc (suc zero))) l = omega (arith, h 0, h 1, h 2, h 3, h 4, h 5, h 6, h 7)
next_byte f h (suc (suc (suc (suc zero)))) l = omega (arith, h 0, h 1, h 2, h 3, h 4, h 5, h 6, h 7)
next_byte f h (suc (suc (suc (suc (suc zero))))) l = omega (arith, h 0, h 1, h 2, h 3, h 4, h 5, h 6, h 7)
next_byte f h (suc (suc (suc (suc (suc (suc zero)))))) l = omega (arith, h 0, h 1, h 2, h 3, h 4, h 5, h 6, h 7)
next_byte f h (suc (suc (suc (suc (suc (suc (suc zero))))))) l = omega (arith, h 0, h 1, h 2, h 3, h 4, h 5, h 6, h 7)
next_byte f h (suc (suc (suc (suc (suc (suc (suc (suc n)))))))) l = absurd (omega arith)

-- ---- the digits of an input

-- the word of the digits 0
abbrev pub zeros : ℕ
zeros = 3472328296227680304

-- the first n bytes of a word are those of digits that write v, and 48 in each
pub record DigitsOf (w n v : ℕ) : Type 0 where
  pub digits : ℕ
  pub split : front w n ≡ front zeros n + digits
  pub bytes : BytesOf digits v

no_digits : (b : List ℕ) (i w : ℕ) → w < 2 ^ 64 → DigitsOf w 0 (digits_value 10 (piece b i (i + 0)))
no_digits b i w l =
    let e : i + 0 ≡ i = omega arith in
    record { digits = 0; split = omega arith; bytes = subst (λ j. BytesOf 0 (digits_value 10 (piece b i j))) (sym e) (subst (BytesOf 0) (value_none b i) none_yet) }

digits_on : (b : List ℕ) (i n : ℕ) (h : (k : ℕ) → get_or b (i + k) 0 < 256) → n < 8 → i + n < length b → IsDigit (get_or b (i + n) 0)
    → DigitsOf (word (λ k. get_or b (i + k) 0)) n (digits_value 10 (piece b i (i + n))) → DigitsOf (word (λ k. get_or b (i + k) 0)) (suc n) (digits_value 10 (piece b i (i + suc n)))
digits_on b i n h l m d r =
    let f : ℕ → ℕ = λ k. get_or b (i + k) 0 in
    let w : ℕ = word f in
    let x : ℕ = f n - 48 in
    let low = d.0 in let high = d.1 in let s = r.split in
    let more : front w (suc n) ≡ front w n * 256 + f n = next_byte f h n l in
    let zero_more : front zeros (suc n) ≡ front zeros n * 256 + 48 = next_byte (λ k. 48) (λ k. omega arith) n l in
    let least = div-le_self w (2 ^ (64 - 8 * suc n)) in
    let top : w < 2 ^ 64 = omega (arith, h 0, h 1, h 2, h 3, h 4, h 5, h 6, h 7) in
    let small : r.digits < 72057594037927936 = omega arith in
    let v = value_more b i (i + n) (digits_value 10 (piece b i (i + n))) (omega arith) m (ascii_of (f n) d) refl in
    let e : i + n + 1 ≡ i + suc n = omega arith in
    record {
      digits = r.digits * 256 + x;
      split = omega arith;
      bytes = subst (λ j. BytesOf (r.digits * 256 + x) (digits_value 10 (piece b i j))) e (subst (BytesOf (r.digits * 256 + x)) v (next_digit r.digits (digits_value 10 (piece b i (i + n))) x r.bytes small (omega arith)));
    }

digits_up_to : (b : List ℕ) (i n : ℕ) (h : (k : ℕ) → get_or b (i + k) 0 < 256) → n ≤ 8 → i + n ≤ length b → ((k : ℕ) → k < n → IsDigit (get_or b (i + k) 0))
    → DigitsOf (word (λ k. get_or b (i + k) 0)) n (digits_value 10 (piece b i (i + n)))
digits_up_to b i zero h l m d = no_digits b i (word (λ k. get_or b (i + k) 0)) (omega (arith, h 0, h 1, h 2, h 3, h 4, h 5, h 6, h 7))
digits_up_to b i (suc n) h l m d = digits_on b i n h (omega arith) (omega arith) (d n (omega arith)) (digits_up_to b i n h (omega arith) (omega arith) (λ k j. d k (omega arith)))

-- the bytes of an input from i on, of which the first n are digits
pub digits_in_word : (b : List ℕ) (i n w : ℕ) → ((k : ℕ) → Fits w8 (get_or b k 0)) → n ≤ 8 → i + n ≤ length b → all_ascii_digits (piece b i (i + n)) ≡ true
    → w ≡ get_or b i 0 * 72057594037927936 + get_or b (i + 1) 0 * 281474976710656 + get_or b (i + 2) 0 * 1099511627776 + get_or b (i + 3) 0 * 4294967296 + get_or b (i + 4) 0 * 16777216 + get_or b (i + 5) 0 * 65536 + get_or b (i + 6) 0 * 256 + get_or b (i + 7) 0
    → DigitsOf w n (digits_value 10 (piece b i (i + n)))
digits_in_word b i n w h l m a e =
    let z : get_or b (i + 0) 0 ≡ get_or b i 0 = ap (λ j. get_or b j 0) (omega arith) in
    let d = digits_up_to b i n (λ k. omega (arith, h (i + k))) l m (λ k j. digit_within b i (i + k) (i + n) (omega arith) (omega arith) m (are_digits (piece b i (i + n)) a)) in
    subst (λ x. DigitsOf x n (digits_value 10 (piece b i (i + n)))) (omega arith) d

-- they are what is left without the 48 in each
left : (w n v : ℕ) (r : DigitsOf w n v) → r.digits ≡ front w n - front zeros n
left w n v r = let s = r.split in omega arith

pub fits_less : (w n v : ℕ) → DigitsOf w n v → front zeros n ≤ front w n
fits_less w n v r = let s = r.split in omega arith

pub fits_pairs : (w n v : ℕ) → DigitsOf w n v → pairs (front w n - front zeros n) < 2 ^ 64
fits_pairs w n v r = subst (λ d. pairs d < 2 ^ 64) (left w n v r) (pairs_fit r.digits v r.bytes)

pub value_of_pairs : (w n v : ℕ) → DigitsOf w n v → let p = pairs (front w n - front zeros n) in p % 256 + p / 65536 % 256 * 100 + p / 4294967296 % 256 * 10000 + p / 281474976710656 % 256 * 1000000 ≡ v
value_of_pairs w n v r = pairs_value (front w n - front zeros n) v (subst (λ d. BytesOf d v) (left w n v r) r.bytes)
