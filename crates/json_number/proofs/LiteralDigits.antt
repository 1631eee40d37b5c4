-- What the digits of a literal in an input tell of its integer.
use Rattle.std.proofs.Common.{◌≡◌, ◌≢◌, inl, inr, ◌∙◌, ℕ, ◌+◌, ◌<◌, ◌≤◌, ◌^◌, pos, neg_ℤ, List, [], ◌∷◌, ◌++◌, length, get_or, true, false, Some, None, refl, sym, ap, subst, arith}
use Rattle.std.proofs.lemmas.Bool.{lt-ltb, le-leb}
use Rattle.std.specs.Str.{all_ascii_digits}
use Rattle.std.specs.Str.Parse.{digits_value}
use Rattle.json_grammar.specs.Given.{piece}
use Rattle.json_grammar.specs.Grammar.{sign, integer_part, number}
use Rattle.json_grammar.proofs.Numbers.{number_begins}
use Rattle.json_io.proofs.Pieces.{piece_cons}
use Rattle.json_number.specs.Integers.{below_zero, integer_in}
use Rattle.json_number.proofs.Integers.{minus_is, plain_is}

pub below_zero_of : (v : ℕ) → 0 < v → v ≤ 2 ^ 63 → Some (neg_ℤ (pos v)) ≡ below_zero v
below_zero_of v p h = rw (lt-ltb 0 v p, le-leb v (2 ^ 63) h) refl

-- ---- a literal that is in b from i on

sized : (s w r : List ℕ) → sign s → integer_part w → get_or (s ++ (w ++ r)) 0 0 ≡ 45 → 1 < length (s ++ (w ++ r))
sized [] [] r a i m = absurd i
sized [] (x ∷ w) r a (inl p) m = let e : x ≡ 45 = m in absurd (omega (arith, p.0, e))
sized [] (x ∷ w) r a (inr p) m = let e : x ≡ 45 = m in absurd (omega (arith, p.0, e))
sized (x ∷ s) [] r a i m = absurd i
sized (x ∷ []) (y ∷ w) r a i m = omega arith
sized (x ∷ z ∷ s) (y ∷ w) r a i m = omega arith

-- a minus alone is no number
pub minus_length : (l : List ℕ) → number l → get_or l 0 0 ≡ 45 → 1 < length l
minus_length l n m = subst (λ y. 1 < length y) (sym n.row) (sized n.s n.w (n.f ++ n.e) n.is_sign n.is_integer_part (subst (λ y. get_or y 0 0 ≡ 45) n.row m))

pub number_length : (l : List ℕ) → number l → 0 < length l
number_length l n = let f = number_begins l n in omega (arith, ap length f.2)

row : (l b : List ℕ) (i : ℕ) → l ≡ piece b i (i + length l) → i + length l ≤ length b → 0 < length l → l ≡ get_or b i 0 ∷ piece b (i + 1) (i + length l)
row l b i e w p = e ∙ piece_cons b i (i + length l) (omega arith) (omega arith)

some_length : (l : List ℕ) → get_or l 0 0 ≡ 45 → 0 < length l
some_length [] e = absurd (omega (arith, e))
some_length (x ∷ l) e = omega arith

pub minus_row : (l b : List ℕ) (i : ℕ) → l ≡ piece b i (i + length l) → i + length l ≤ length b → get_or l 0 0 ≡ 45 → l ≡ 45 ∷ piece b (i + 1) (i + length l)
minus_row l b i e w m =
    let r = row l b i e w (some_length l m) in
    let f : get_or b i 0 ≡ 45 = sym (ap (λ y. get_or y 0 0) r) ∙ m in
    r ∙ ap (λ x. x ∷ piece b (i + 1) (i + length l)) f

pub minus_digits : (l r : List ℕ) → l ≡ 45 ∷ r → all_ascii_digits r ≡ true → integer_in l ≡ below_zero (digits_value 10 r)
minus_digits l r e d = ap integer_in e ∙ minus_is r ∙ rw d refl

pub minus_others : (l r : List ℕ) → l ≡ 45 ∷ r → all_ascii_digits r ≡ false → integer_in l ≡ None
minus_others l r e d = ap integer_in e ∙ minus_is r ∙ rw d refl

pub plain_digits : (l : List ℕ) → get_or l 0 0 ≢ 45 → 0 < length l → all_ascii_digits l ≡ true → digits_value 10 l < 2 ^ 64 → integer_in l ≡ Some (pos (digits_value 10 l))
plain_digits [] m p d f = absurd (omega arith)
plain_digits (x ∷ r) m p d f = plain_is x r m ∙ rw (d, lt-ltb _ _ f) refl

pub plain_others : (l : List ℕ) → get_or l 0 0 ≢ 45 → 0 < length l → all_ascii_digits l ≡ false → integer_in l ≡ None
plain_others [] m p d = absurd (omega arith)
plain_others (x ∷ r) m p d = plain_is x r m ∙ rw d refl
