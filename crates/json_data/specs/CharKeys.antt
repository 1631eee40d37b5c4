-- Characters as keys: they are ordered as their bytes in UTF-8.
use Rattle.std.specs.Prelude.{◌≡◌, ◌+◌, ◌*◌, ◌/◌, ◌%◌, ◌<◌, ◌≤◌, ◌==◌, ℕ, Bool, true, false, cond, if◌then◌else◌, List, [], ◌∷◌, length}
use Rattle.std.proofs.Common.{refl, sym, subst, arith}
use Rattle.std.proofs.lemmas.Bool.{ltb-true, ltb-false}
use Rattle.std.specs.Char.{encode_utf8}
use Rattle.std.specs.Cmp.{ranks, nat_cmp_is}
use Rattle.std.specs.Cmp.Lexicographic.{slice_cmp}
use Rattle.std.specs.Str.{chars}
use Rattle.std.specs.Ordering.{nat_cmp, ordering_then, MatchOrdering}
use Rattle.std.specs.declared.cmp.Ordering.{Ordering}
use Rattle.std.specs.declared.cmp.Ordering.TheVariants.{Less, Equal, Greater}
use lib.Dec.{ltb}
use lib.Utf8.{next}
use Rattle.json_model.specs.Datum.{text_datum}
use Rattle.json_io.specs.declared.error.ErrorCode.TheVariants.{TypeUnmatched}
use Rattle.json_data.specs.Keys.{IsNamed}
use Rattle.json_data.specs.Reading.{gives, refuses, one_character}

-- o is how a and b are ordered
abbrev pub Ranks : Ordering → ℕ → ℕ → Type 0
Ranks o a b = MatchOrdering o (a < b) (a ≡ b) (b < a)

-- the bytes of a character, by its number
pub data Bytes : ℕ → List ℕ → Type 0 where
  one : {c : ℕ} → c < 128 → Bytes c (c ∷ [])
  two : {c : ℕ} → 128 ≤ c → c < 2048 → Bytes c ((192 + c / 64) ∷ next c ∷ [])
  three : {c : ℕ} → 2048 ≤ c → c < 65536 → Bytes c ((224 + c / 4096) ∷ next (c / 64) ∷ next c ∷ [])
  four : {c : ℕ} → 65536 ≤ c → Bytes c ((240 + c / 262144) ∷ next (c / 4096) ∷ next (c / 64) ∷ next c ∷ [])

bytes_by : (c : ℕ) (x y z : Bool) → ltb c 128 ≡ x → ltb c 2048 ≡ y → ltb c 65536 ≡ z
    → Bytes c (cond x (c ∷ []) (cond y ((192 + c / 64) ∷ next c ∷ []) (cond z ((224 + c / 4096) ∷ next (c / 64) ∷ next c ∷ []) ((240 + c / 262144) ∷ next (c / 4096) ∷ next (c / 64) ∷ next c ∷ []))))
bytes_by c true y z e f g = one (ltb-true c 128 e)
bytes_by c false true z e f g = two (ltb-false c 128 e) (ltb-true c 2048 f)
bytes_by c false false true e f g = three (ltb-false c 2048 f) (ltb-true c 65536 g)
bytes_by c false false false e f g = four (ltb-false c 65536 g)

bytes_of : (c : ℕ) → Bytes c (encode_utf8 c)
unfolding encode_utf8
bytes_of c = bytes_by c (ltb c 128) (ltb c 2048) (ltb c 65536) refl refl refl

-- ---- digits

shifted : (o : Ordering) (m x y : ℕ) → Ranks o (m + x) (m + y) → Ranks o x y
shifted Less m x y h = omega arith
shifted Equal m x y h = omega arith
shifted Greater m x y h = omega arith

ends : (o : Ordering) (x y : ℕ) → Ranks o x y → Ranks (ordering_then o Equal) x y
ends Less x y h = h
ends Equal x y h = h
ends Greater x y h = h

-- the first digit decides, or else those after it
by_64 : (o p : Ordering) (x y u v a b : ℕ) → a ≡ 64 * x + u → b ≡ 64 * y + v → u < 64 → v < 64 → Ranks o x y → Ranks p u v → Ranks (ordering_then o p) a b
by_64 Less p x y u v a b e f g h i j = omega (arith, e, f, g, h, i)
by_64 Equal Less x y u v a b e f g h i j = omega arith
by_64 Equal Equal x y u v a b e f g h i j = omega arith
by_64 Equal Greater x y u v a b e f g h i j = omega arith
by_64 Greater p x y u v a b e f g h i j = omega (arith, e, f, g, h, i)

by_4096 : (o p : Ordering) (x y u v a b : ℕ) → a ≡ 4096 * x + u → b ≡ 4096 * y + v → u < 4096 → v < 4096 → Ranks o x y → Ranks p u v → Ranks (ordering_then o p) a b
by_4096 Less p x y u v a b e f g h i j = omega (arith, e, f, g, h, i)
by_4096 Equal Less x y u v a b e f g h i j = omega arith
by_4096 Equal Equal x y u v a b e f g h i j = omega arith
by_4096 Equal Greater x y u v a b e f g h i j = omega arith
by_4096 Greater p x y u v a b e f g h i j = omega (arith, e, f, g, h, i)

by_262144 : (o p : Ordering) (x y u v a b : ℕ) → a ≡ 262144 * x + u → b ≡ 262144 * y + v → u < 262144 → v < 262144 → Ranks o x y → Ranks p u v → Ranks (ordering_then o p) a b
by_262144 Less p x y u v a b e f g h i j = omega (arith, e, f, g, h, i)
by_262144 Equal Less x y u v a b e f g h i j = omega arith
by_262144 Equal Equal x y u v a b e f g h i j = omega arith
by_262144 Equal Greater x y u v a b e f g h i j = omega arith
by_262144 Greater p x y u v a b e f g h i j = omega (arith, e, f, g, h, i)

last_two : (a : ℕ) → a % 4096 ≡ 64 * (a / 64 % 64) + a % 64
last_two a = omega arith

last_three : (a : ℕ) → a % 262144 ≡ 4096 * (a / 4096 % 64) + a % 4096
last_three a = omega arith

digit : (a b : ℕ) → Ranks (nat_cmp (next a) (next b)) (a % 64) (b % 64)
digit a b = shifted (nat_cmp (next a) (next b)) 128 (a % 64) (b % 64) (ranks (128 + a % 64) (128 + b % 64))

digits_1 : (a b : ℕ) → Ranks (ordering_then (nat_cmp (next a) (next b)) Equal) (a % 64) (b % 64)
digits_1 a b = ends (nat_cmp (next a) (next b)) (a % 64) (b % 64) (digit a b)

digits_2 : (a b : ℕ) → Ranks (ordering_then (nat_cmp (next (a / 64)) (next (b / 64))) (ordering_then (nat_cmp (next a) (next b)) Equal)) (a % 4096) (b % 4096)
digits_2 a b =
    by_64 (nat_cmp (next (a / 64)) (next (b / 64))) (ordering_then (nat_cmp (next a) (next b)) Equal) (a / 64 % 64) (b / 64 % 64) (a % 64) (b % 64) (a % 4096) (b % 4096)
    (last_two a) (last_two b) (omega arith) (omega arith) (digit (a / 64) (b / 64)) (digits_1 a b)

digits_3 : (a b : ℕ) → Ranks (ordering_then (nat_cmp (next (a / 4096)) (next (b / 4096))) (ordering_then (nat_cmp (next (a / 64)) (next (b / 64))) (ordering_then (nat_cmp (next a) (next b)) Equal))) (a % 262144) (b % 262144)
digits_3 a b =
    by_4096 (nat_cmp (next (a / 4096)) (next (b / 4096))) (ordering_then (nat_cmp (next (a / 64)) (next (b / 64))) (ordering_then (nat_cmp (next a) (next b)) Equal)) (a / 4096 % 64) (b / 4096 % 64) (a % 4096) (b % 4096) (a % 262144) (b % 262144)
    (last_three a) (last_three b) (omega arith) (omega arith) (digit (a / 4096) (b / 4096)) (digits_2 a b)

-- ---- characters

lower : (o : Ordering) (x y a b : ℕ) → x < y → a < b → Ranks (ordering_then (nat_cmp x y) o) a b
lower o x y a b h k = subst (λ (p : Ordering). Ranks (ordering_then p o) a b) (nat_cmp_is x y Less h) k

higher : (o : Ordering) (x y a b : ℕ) → y < x → b < a → Ranks (ordering_then (nat_cmp x y) o) a b
higher o x y a b h k = subst (λ (p : Ordering). Ranks (ordering_then p o) a b) (nat_cmp_is x y Greater h) k

ordered : (a b : ℕ) {s r : List ℕ} → Bytes a s → Bytes b r → Ranks (slice_cmp nat_cmp s r) a b
ordered a b (one h) (one k) = ends (nat_cmp a b) a b (ranks a b)
ordered a b (two h i) (two k l) =
    by_64 (nat_cmp (192 + a / 64) (192 + b / 64)) (ordering_then (nat_cmp (next a) (next b)) Equal) (a / 64) (b / 64) (a % 64) (b % 64) a b (omega arith) (omega arith) (omega arith) (omega arith)
    (shifted (nat_cmp (192 + a / 64) (192 + b / 64)) 192 (a / 64) (b / 64) (ranks (192 + a / 64) (192 + b / 64))) (digits_1 a b)
ordered a b (three h i) (three k l) =
    by_4096 (nat_cmp (224 + a / 4096) (224 + b / 4096)) (ordering_then (nat_cmp (next (a / 64)) (next (b / 64))) (ordering_then (nat_cmp (next a) (next b)) Equal)) (a / 4096) (b / 4096) (a % 4096) (b % 4096) a b (omega arith) (omega arith) (omega arith) (omega arith)
    (shifted (nat_cmp (224 + a / 4096) (224 + b / 4096)) 224 (a / 4096) (b / 4096) (ranks (224 + a / 4096) (224 + b / 4096))) (digits_2 a b)
ordered a b (four h) (four k) =
    by_262144 (nat_cmp (240 + a / 262144) (240 + b / 262144)) (ordering_then (nat_cmp (next (a / 4096)) (next (b / 4096))) (ordering_then (nat_cmp (next (a / 64)) (next (b / 64))) (ordering_then (nat_cmp (next a) (next b)) Equal))) (a / 262144) (b / 262144) (a % 262144) (b % 262144) a b (omega arith) (omega arith) (omega arith) (omega arith)
    (shifted (nat_cmp (240 + a / 262144) (240 + b / 262144)) 240 (a / 262144) (b / 262144) (ranks (240 + a / 262144) (240 + b / 262144))) (digits_3 a b)
ordered a b (one h) (two k l) = lower _ a (192 + b / 64) a b (omega arith) (omega arith)
ordered a b (one h) (three k l) = lower _ a (224 + b / 4096) a b (omega arith) (omega arith)
ordered a b (one h) (four k) = lower _ a (240 + b / 262144) a b (omega arith) (omega arith)
ordered a b (two h i) (three k l) = lower _ (192 + a / 64) (224 + b / 4096) a b (omega arith) (omega arith)
ordered a b (two h i) (four k) = lower _ (192 + a / 64) (240 + b / 262144) a b (omega arith) (omega arith)
ordered a b (three h i) (four k) = lower _ (224 + a / 4096) (240 + b / 262144) a b (omega arith) (omega arith)
ordered a b (two h i) (one k) = higher _ (192 + a / 64) b a b (omega arith) (omega arith)
ordered a b (three h i) (one k) = higher _ (224 + a / 4096) b a b (omega arith) (omega arith)
ordered a b (four h) (one k) = higher _ (240 + a / 262144) b a b (omega arith) (omega arith)
ordered a b (three h i) (two k l) = higher _ (224 + a / 4096) (192 + b / 64) a b (omega arith) (omega arith)
ordered a b (four h) (two k l) = higher _ (240 + a / 262144) (192 + b / 64) a b (omega arith) (omega arith)
ordered a b (four h) (three k l) = higher _ (240 + a / 262144) (224 + b / 4096) a b (omega arith) (omega arith)

pub chars_ordered : (a b : ℕ) → nat_cmp a b ≡ slice_cmp nat_cmp (encode_utf8 a) (encode_utf8 b)
chars_ordered a b = sym (nat_cmp_is a b _ (ordered a b (bytes_of a) (bytes_of b)))

-- ---- and no text is read as null

named_by : (b : Bool) (s : List ℕ) → IsNamed (if b then gives (text_datum s) else refuses TypeUnmatched)
named_by true s = tt
named_by false s = tt

pub character_named : (s : List ℕ) → IsNamed (one_character s)
character_named s = named_by (length (chars s) == 1) s
