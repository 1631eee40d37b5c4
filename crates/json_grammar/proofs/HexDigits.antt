-- Hexadecimal digits, the numbers that four of them are, and which of these are surrogates.
use Rattle.std.proofs.Common.{◌≡◌, ℕ, ◌+◌, ◌-◌, ◌*◌, ◌<◌, ◌≤◌, Bool, true, false, ◌&&◌, ◌⊎◌, inl, inr, Some, refl, arith}
use Rattle.std.specs.Char.{digit_value, is_digit}
use Rattle.std.proofs.lemmas.Bool.{and_parts, cases_lt, cases_eq, lt-ltb, le-ltb, ltb-true, ltb-false}
use Rattle.std.proofs.lemmas.Option.{cond_some}
use Rattle.json_grammar.specs.Grammar.{hex4, IsHighSurrogate, IsLowSurrogate}

-- ---- hexadecimal digits

pub dec_hex : (x : ℕ) → (is_digit x 16 ≡ true) ⊎ (is_digit x 16 ≡ false)
dec_hex x = by (is_digit x 16) refl
  where
    by : (b : Bool) → is_digit x 16 ≡ b → (is_digit x 16 ≡ true) ⊎ (is_digit x 16 ≡ false)
    by true e = inl e
    by false e = inr e

abbrev pub Valued : ℕ → ℕ → Type 0
Valued x v = ((48 ≤ x) × (x ≤ 57) × (v + 48 ≡ x)) ⊎ (((65 ≤ x) × (x ≤ 70) × (v + 55 ≡ x)) ⊎ ((97 ≤ x) × (x ≤ 102) × (v + 87 ≡ x)))

pub valued : (x : ℕ) → is_digit x 16 ≡ true → Valued x (digit_value x)
valued x h = go (cases_lt x 48) (cases_lt x 58) (cases_lt x 65) (cases_lt x 91) (cases_lt x 97) (cases_lt x 123) (ltb-true (digit_value x) 16 h)
  where
    go : (x < 48) ⊎ (48 ≤ x) → (x < 58) ⊎ (58 ≤ x) → (x < 65) ⊎ (65 ≤ x) → (x < 91) ⊎ (91 ≤ x) → (x < 97) ⊎ (97 ≤ x) → (x < 123) ⊎ (123 ≤ x) → digit_value x < 16 → Valued x (digit_value x)
    go (inl a) b c d e f i = let v : digit_value x ≡ 36 = rw (lt-ltb x 48 a) refl in absurd (omega arith)
    go (inr a) (inl b) c d e f i = let v : digit_value x ≡ x - 48 = rw (le-ltb x 48 a, lt-ltb x 58 b) refl in inl (a, omega arith, omega arith)
    go (inr a) (inr b) (inl c) d e f i = let v : digit_value x ≡ 36 = rw (le-ltb x 48 a, le-ltb x 58 b, lt-ltb x 65 c) refl in absurd (omega arith)
    go (inr a) (inr b) (inr c) (inl d) e f i = let v : digit_value x ≡ x - 55 = rw (le-ltb x 48 a, le-ltb x 58 b, le-ltb x 65 c, lt-ltb x 91 d) refl in inr (inl (c, omega arith, omega arith))
    go (inr a) (inr b) (inr c) (inr d) (inl e) f i = let v : digit_value x ≡ 36 = rw (le-ltb x 48 a, le-ltb x 58 b, le-ltb x 65 c, le-ltb x 91 d, lt-ltb x 97 e) refl in absurd (omega arith)
    go (inr a) (inr b) (inr c) (inr d) (inr e) (inl f) i = let v : digit_value x ≡ x - 87 = rw (le-ltb x 48 a, le-ltb x 58 b, le-ltb x 65 c, le-ltb x 91 d, le-ltb x 97 e, lt-ltb x 123 f) refl in inr (inr (e, omega arith, omega arith))
    go (inr a) (inr b) (inr c) (inr d) (inr e) (inr f) i = let v : digit_value x ≡ 36 = rw (le-ltb x 48 a, le-ltb x 58 b, le-ltb x 65 c, le-ltb x 91 d, le-ltb x 97 e, le-ltb x 123 f) refl in absurd (omega arith)

pub hex_ascii : (x : ℕ) → is_digit x 16 ≡ true → x < 128
hex_ascii x h = let v = valued x h in omega arith

hex_small : (x : ℕ) → is_digit x 16 ≡ true → digit_value x < 16
hex_small x h = ltb-true (digit_value x) 16 h

-- the letter d, which begins the escape of each surrogate
abbrev pub IsD : ℕ → Type 0
IsD x = (x ≡ 68) ⊎ (x ≡ 100)

-- c to f, with which the escape of a low one goes on
abbrev pub IsCToF : ℕ → Type 0
IsCToF x = ((67 ≤ x) × (x ≤ 70)) ⊎ ((99 ≤ x) × (x ≤ 102))

pub dec_d : (x : ℕ) → IsD x ⊎ ¬ (IsD x)
dec_d x = go (cases_eq x 68) (cases_eq x 100)
  where
    go : (x ≡ 68) ⊎ (x ≡ 68 → ⊥) → (x ≡ 100) ⊎ (x ≡ 100 → ⊥) → IsD x ⊎ ¬ (IsD x)
    go (inl a) b = inl (inl a)
    go (inr a) (inl b) = inl (inr b)
    go (inr a) (inr b) = inr (λ c. elim c [ inl i ↦ a i | inr i ↦ b i ])

pub dec_c_to_f : (x : ℕ) → IsCToF x ⊎ ¬ (IsCToF x)
dec_c_to_f x = go (cases_lt x 67) (cases_lt x 71) (cases_lt x 99) (cases_lt x 103)
  where
    go : (x < 67) ⊎ (67 ≤ x) → (x < 71) ⊎ (71 ≤ x) → (x < 99) ⊎ (99 ≤ x) → (x < 103) ⊎ (103 ≤ x) → IsCToF x ⊎ ¬ (IsCToF x)
    go (inl a) b c d = inr (λ e. absurd (omega arith))
    go (inr a) (inl b) c d = inl (inl (a, omega arith))
    go (inr a) (inr b) (inl c) d = inr (λ e. absurd (omega arith))
    go (inr a) (inr b) (inr c) (inl d) = inl (inr (c, omega arith))
    go (inr a) (inr b) (inr c) (inr d) = inr (λ e. absurd (omega arith))

pub hex_d : (x : ℕ) → IsD x → is_digit x 16 ≡ true
hex_d x (inl e) = rw e refl
hex_d x (inr e) = rw e refl

d_value : (x : ℕ) → IsD x → digit_value x ≡ 13
d_value x (inl e) = rw e refl
d_value x (inr e) = rw e refl

pub hex_c_to_f : (x : ℕ) → IsCToF x → is_digit x 16 ≡ true
hex_c_to_f x h = go (dec_hex x)
  where
    go : (is_digit x 16 ≡ true) ⊎ (is_digit x 16 ≡ false) → is_digit x 16 ≡ true
    go (inl e) = e
    go (inr e) = absurd (by h (ltb-false (digit_value x) 16 e))
      where
        by : IsCToF x → 16 ≤ digit_value x → ⊥
        by (inl i) k = let v : digit_value x ≡ x - 55 = rw (le-ltb x 48 (omega arith), le-ltb x 58 (omega arith), le-ltb x 65 (omega arith), lt-ltb x 91 (omega arith)) refl in omega arith
        by (inr i) k = let v : digit_value x ≡ x - 87 = rw (le-ltb x 48 (omega arith), le-ltb x 58 (omega arith), le-ltb x 65 (omega arith), le-ltb x 91 (omega arith), le-ltb x 97 (omega arith), lt-ltb x 123 (omega arith)) refl in omega arith

-- four digits and their number
pub record Hex (p q r s u : ℕ) : Type 0 where
  pub p_hex : is_digit p 16 ≡ true
  pub q_hex : is_digit q 16 ≡ true
  pub r_hex : is_digit r 16 ≡ true
  pub s_hex : is_digit s 16 ≡ true
  pub sum : digit_value p * 4096 + digit_value q * 256 + digit_value r * 16 + digit_value s ≡ u

pub hex_parts : (p q r s u : ℕ) → hex4 p q r s ≡ Some u → Hex p q r s u
unfolding hex4
hex_parts p q r s u e =
    let a = cond_some (is_digit p 16 && is_digit q 16 && is_digit r 16 && is_digit s 16) _ u e in
    let b = and_parts (is_digit p 16 && is_digit q 16 && is_digit r 16) (is_digit s 16) a.0 in let c = and_parts (is_digit p 16 && is_digit q 16) (is_digit r 16) b.0 in let d = and_parts (is_digit p 16) (is_digit q 16) c.0 in
    record { p_hex = d.0; q_hex = d.1; r_hex = c.1; s_hex = b.1; sum = a.1 }

pub four : (p q r s : ℕ) → is_digit p 16 ≡ true → is_digit q 16 ≡ true → is_digit r 16 ≡ true → is_digit s 16 ≡ true → (u : ℕ) × (hex4 p q r s ≡ Some u)
unfolding hex4
four p q r s a b c d = (digit_value p * 4096 + digit_value q * 256 + digit_value r * 16 + digit_value s, rw (a, b, c, d) refl)

-- the first two digits decide which numbers are surrogates
pub is_low : (p q r s u : ℕ) → Hex p q r s u → IsD p → IsCToF q → IsLowSurrogate u
is_low p q r s u h d c =
    let v = d_value p d in let w = valued q h.q_hex in let i = hex_small r h.r_hex in let j = hex_small s h.s_hex in let e = h.sum in
    by (digit_value p) (digit_value q) (digit_value r) (digit_value s) u e v (above q (digit_value q) c w) (hex_small q h.q_hex) i j
  where
    above : (q v : ℕ) → IsCToF q → Valued q v → 12 ≤ v
    above q v c w = omega arith

    by : (a b c d u : ℕ) → a * 4096 + b * 256 + c * 16 + d ≡ u → a ≡ 13 → 12 ≤ b → b < 16 → c < 16 → d < 16 → IsLowSurrogate u
    by a b c d u e f g h i j = (omega arith, omega arith)

pub low_parts : (p q r s u : ℕ) → Hex p q r s u → IsLowSurrogate u → IsD p × IsCToF q
low_parts p q r s u h l =
    let a = hex_small p h.p_hex in let b = hex_small q h.q_hex in let c = hex_small r h.r_hex in let d = hex_small s h.s_hex in
    let n = by (digit_value p) (digit_value q) (digit_value r) (digit_value s) u h.sum b c d l in
    (is_d p (digit_value p) (valued p h.p_hex) n.0, is_c q (digit_value q) (valued q h.q_hex) n.1 b)
  where
    by : (a b c d u : ℕ) → a * 4096 + b * 256 + c * 16 + d ≡ u → b < 16 → c < 16 → d < 16 → IsLowSurrogate u → (a ≡ 13) × (12 ≤ b)
    by a b c d u e g h i l = (omega arith, omega arith)

    is_d : (p v : ℕ) → Valued p v → v ≡ 13 → IsD p
    is_d p v (inl w) e = absurd (omega arith)
    is_d p v (inr (inl w)) e = inl (omega arith)
    is_d p v (inr (inr w)) e = inr (omega arith)

    is_c : (q v : ℕ) → Valued q v → 12 ≤ v → v < 16 → IsCToF q
    is_c q v (inl w) e f = absurd (omega arith)
    is_c q v (inr (inl w)) e f = inl (omega arith, omega arith)
    is_c q v (inr (inr w)) e f = inr (omega arith, omega arith)

pub dec_high : (u : ℕ) → IsHighSurrogate u ⊎ ¬ (IsHighSurrogate u)
dec_high u = go (cases_lt u 0xd800) (cases_lt u 0xdc00)
  where
    go : (u < 0xd800) ⊎ (0xd800 ≤ u) → (u < 0xdc00) ⊎ (0xdc00 ≤ u) → IsHighSurrogate u ⊎ ¬ (IsHighSurrogate u)
    go (inl a) b = inr (λ c. absurd (omega arith))
    go (inr a) (inl b) = inl (a, b)
    go (inr a) (inr b) = inr (λ c. absurd (omega arith))

pub dec_low : (u : ℕ) → IsLowSurrogate u ⊎ ¬ (IsLowSurrogate u)
dec_low u = go (cases_lt u 0xdc00) (cases_lt u 0xe000)
  where
    go : (u < 0xdc00) ⊎ (0xdc00 ≤ u) → (u < 0xe000) ⊎ (0xe000 ≤ u) → IsLowSurrogate u ⊎ ¬ (IsLowSurrogate u)
    go (inl a) b = inr (λ c. absurd (omega arith))
    go (inr a) (inl b) = inl (a, b)
    go (inr a) (inr b) = inr (λ c. absurd (omega arith))
