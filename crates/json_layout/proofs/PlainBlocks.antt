-- Blocks of bytes that denote themselves in a string.
use Rattle.std.proofs.Common.{◌≡◌, ℕ, zero, suc, ◌+◌, ◌/◌, ◌%◌, ◌^◌, ◌<◌, ◌≤◌, ◌==◌, cond, List, [], ◌∷◌, map, length, take, drop, get_or, refl, sym, subst, ap, ◌∙◌, arith, inl, inr}
use Rattle.std.proofs.Math.Nat.{div-eq_of_lt, pow-le-pow_right}
use Rattle.std.proofs.lemmas.Bool.{cases_lt, ne_eqb}
use Rattle.std.proofs.lemmas.List.{get_or-take, get_or-drop, length-map, length-take}
use Rattle.std.proofs.lemmas.Nat.Bits.{bit_at-trailing_zeros}
use Rattle.std.proofs.lemmas.Simd.{length-chunk, mask_l-lt, mask_l-mod}
use Rattle.std.specs.Int.{w64}
use Rattle.std.specs.Int.Count.{count_trailing_zeros}
use lib.Lanes.{chunk, mask_l, top}
use Rattle.json_scan.specs.Runs.{CountedIn, IsPlain, plain}

positive : (m : ℕ) → (m ≡ 0 → ⊥) → 0 < m
positive zero some = absurd (some refl)
positive (suc m) some = omega arith

-- a mask of n lanes has its lowest bit within them
pub lowest_within : (m n : ℕ) → (m ≡ 0 → ⊥) → m < 2 ^ n → n ≤ 64 → count_trailing_zeros 64 m < n
lowest_within m n some few lanes =
    let wide : m < 2 ^ 64 = omega (arith, few, pow-le-pow_right {n = 2} (omega arith) lanes) in
    let bit = bit_at-trailing_zeros w64 m (positive m some) wide in
    elim (cases_lt (count_trailing_zeros 64 m) n) [
      | inl l ↦ l
      | inr l ↦
          let none : m / 2 ^ count_trailing_zeros 64 m ≡ 0 = div-eq_of_lt (omega (arith, few, pow-le-pow_right {n = 2} (omega arith) l)) in
          let bad : ◌≡◌ {A = ℕ} 1 0 = sym bit.1 ∙ ap (λ x. x % 2) none in absurd (cc)
    ]

pub mask_below : (b : List ℕ) (i n : ℕ) (z : List ℕ) (f : ℕ → ℕ) → i + n ≤ length b → n ≤ 64 → z ≡ map f (chunk i n b) → mask_l (map (top 7) z) % 2 ^ 64 < 2 ^ n
mask_below b i n z f room few lanes =
    let ms = map (top 7) z in
    let long : length ms ≡ n = length-map z (top 7) ∙ ap length lanes ∙ length-map (chunk i n b) f ∙ length-chunk i n b room in
    subst (λ m. m < 2 ^ n) (sym (mask_l-mod ms 64 (omega (arith, long)))) (subst (λ k. mask_l ms < 2 ^ k) long (mask_l-lt ms))

-- where no lane of a block has a bit, each of its bytes is plain
pub plain_each : (b : List ℕ) (i n m : ℕ) → CountedIn IsPlain b i n (cond (m == 0) n (count_trailing_zeros 64 m)) → m ≡ 0 → (k : ℕ) → i ≤ k → k < i + n → IsPlain (get_or b k 0)
plain_each b i n m h none k l r =
    let whole : cond (m == 0) n (count_trailing_zeros 64 m) ≡ n = ap (λ x. cond (x == 0) n (count_trailing_zeros 64 x)) none in
    h.each k l (omega (arith, whole, r))

-- the bytes before the first that has a bit
pub plain_before : (b : List ℕ) (i n m : ℕ) → CountedIn IsPlain b i n (cond (m == 0) n (count_trailing_zeros 64 m)) → (m ≡ 0 → ⊥) → (k : ℕ) → i ≤ k → k < i + count_trailing_zeros 64 m → IsPlain (get_or b k 0)
plain_before b i n m h some k l r =
    let lowest : cond (m == 0) n (count_trailing_zeros 64 m) ≡ count_trailing_zeros 64 m = ap (λ x. cond x n (count_trailing_zeros 64 m)) (ne_eqb m 0 some) in
    h.each k l (omega (arith, lowest, r))

pub plain_all_of : (b : List ℕ) → ((k : ℕ) → k < length b → IsPlain (get_or b k 0)) → plain b
plain_all_of [] h = tt
plain_all_of (x ∷ b) h = (h 0 (omega arith), plain_all_of b (λ k l. h (suc k) (omega (arith, l))))

-- two blocks that may overlap are the whole
pub plain_both : (b : List ℕ) (n k : ℕ) → k ≤ n → k + n ≡ length b → ((j : ℕ) → 0 ≤ j → j < 0 + n → IsPlain (get_or b j 0)) → ((j : ℕ) → k ≤ j → j < k + n → IsPlain (get_or b j 0)) → plain b
plain_both b n k short all front back =
    plain_all_of b (λ j l. elim (cases_lt j n) [ inl m ↦ front j (omega arith) (omega arith) | inr m ↦ back j (omega arith) (omega arith) ])

-- the first n bytes from i on
pub plain_front : (b : List ℕ) (i n : ℕ) → ((k : ℕ) → i ≤ k → k < i + n → IsPlain (get_or b k 0)) → plain (take n (drop i b))
plain_front b i n each =
    plain_all_of (take n (drop i b)) (λ k l.
    let h : k < n = omega (arith, l, length-take n (drop i b)) in
    subst IsPlain (sym (get_or-take n (drop i b) k 0 h ∙ get_or-drop i b k 0)) (each (i + k) (omega arith) (omega (arith, h))))
