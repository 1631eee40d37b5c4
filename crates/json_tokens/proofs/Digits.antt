-- Integers of short literals.
use Rattle.std.proofs.Common.{◌≡◌, ◌≢◌, true, ℕ, ◌<◌, ◌≤◌, ◌^◌, pos, neg_ℤ, List, [], ◌∷◌, length, get_or, drop, Some, arith}
use Rattle.std.proofs.lemmas.Bool.{ne_eqb, lt-ltb, le-leb}
use Rattle.json_number.specs.Integers.{integer_in}
use Rattle.std.specs.Str.{all_ascii_digits}
use Rattle.std.specs.Str.Parse.{digits_value}

pub plain_integer : (l : List ℕ) (n : ℕ) → get_or l 0 0 ≢ 45 → 0 < length l → all_ascii_digits l ≡ true → n ≡ digits_value 10 l → n < 2 ^ 64 → integer_in l ≡ Some (pos n)
unfolding integer_in
plain_integer [] n e h d v s = absurd (omega arith)
plain_integer (x ∷ b) n e h d v s = rw (ne_eqb x 45 e, d, ← v, lt-ltb n (2 ^ 64) s)

pub negative_integer : (l : List ℕ) (n : ℕ) → get_or l 0 0 ≡ 45 → all_ascii_digits (drop 1 l) ≡ true → n ≡ digits_value 10 (drop 1 l) → 0 < n → n ≤ 2 ^ 63 → integer_in l ≡ Some (neg_ℤ (pos n))
unfolding integer_in
negative_integer [] n e d v p s = absurd (cc)
negative_integer (x ∷ b) n e d v p s = rw (e, d, ← v, lt-ltb 0 n p, le-leb n (2 ^ 63) s)
