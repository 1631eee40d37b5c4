-- Tables with an entry for each byte, and what they tell of escapes.
use Rattle.std.proofs.Common.{◌≡◌, ◌≢◌, Bool, true, false, ℕ, ◌+◌, ◌*◌, ◌<◌, ◌≤◌, List, get_or, ◌==◌, cond, Option, Some, None, inl, inr, refl, subst, ◌∙◌, arith}
use Rattle.std.proofs.lemmas.Bool.{eqb-true, agree_below, agree_below_at, cases_eq, cases_lt, lt-ltb, le-ltb, ne_eqb}
use Rattle.std.specs.Char.{digit_value}
use Rattle.json_text.specs.declared.escape.Escape.{Escape}
use Rattle.json_text.specs.declared.escape.Escape.TheVariants.{U as letter_u, Done as finished}
use Rattle.json_text.specs.Escapes.{first_step, short_byte, hex_or_more, HexAfter}

-- a table that agrees at each of the 256 bytes
pub from_table : (table : List ℕ) (f : ℕ → ℕ) (x : ℕ) → x < 256 → agree_below (λ b. get_or table b 0 == f b) (λ _. true) 256 ≡ true → get_or table x 0 ≡ f x
from_table table f x small all = eqb-true _ _ (agree_below_at (λ b. get_or table b 0 == f b) (λ _. true) 256 x all small)

-- ---- short escapes

-- a number that is not 0 exactly where a short escape ends
pub record Ends (n : ℕ) (o : Option Escape) : Type 0 where
  pub there : n ≢ 0 → o ≡ Some finished
  pub back : o ≡ Some finished → n ≢ 0

ends_once : (t : Bool) (v n : ℕ) (o : Option Escape) → v ≢ 0 → Ends n o → Ends (cond t v n) (cond t (Some finished) o)
ends_once true v n o h e = record { there = λ _. refl; back = λ _. h }
ends_once false v n o h e = e

none_done : None ≡ Some finished → ⊥
none_done e = cc

letter_done : Some letter_u ≡ Some finished → ⊥
letter_done e = cc

ends_nowhere : Ends 0 None
ends_nowhere = record { there = λ h. absurd (h refl); back = λ e. absurd (none_done e) }

short_others : (x : ℕ)
    → Ends (short_byte x)
    (cond (x == 34) (Some finished) (cond (x == 92) (Some finished) (cond (x == 47) (Some finished) (cond (x == 98) (Some finished) (cond (x == 102) (Some finished) (cond (x == 110) (Some finished) (cond (x == 114) (Some finished) (cond (x == 116) (Some finished) None))))))))
short_others x =
    ends_once (x == 34) 34 _ _ (omega arith)
    (ends_once (x == 92) 92 _ _ (omega arith)
    (ends_once (x == 47) 47 _ _ (omega arith)
    (ends_once (x == 98) 8 _ _ (omega arith)
    (ends_once (x == 102) 12 _ _ (omega arith)
    (ends_once (x == 110) 10 _ _ (omega arith)
    (ends_once (x == 114) 13 _ _ (omega arith)
    (ends_once (x == 116) 9 _ _ (omega arith) ends_nowhere)))))))

pub short_ends : (x : ℕ) → Ends (short_byte x) (first_step x)
short_ends x = elim (cases_eq x 117) [ inl e ↦ letter e | inr n ↦ rw (ne_eqb x 117 n) (short_others x) ]
  where
    letter : x ≡ 117 → Ends (short_byte x) (first_step x)
    letter e = rw e (record { there = λ h. absurd (h refl); back = λ f. absurd (letter_done f) })

-- ---- hexadecimal digits

pub hex_most : (x : ℕ) → hex_or_more x ≤ 65536
hex_most x = elim (cases_lt (digit_value x) 16) [ inl l ↦ rw (lt-ltb (digit_value x) 16 l) (omega arith) | inr l ↦ rw (le-ltb (digit_value x) 16 l) (omega arith) ]

hex_is : (x : ℕ) → hex_or_more x < 65536 → (digit_value x < 16) × (hex_or_more x ≡ digit_value x)
hex_is x h = elim (cases_lt (digit_value x) 16) [ inl l ↦ (l, rw (lt-ltb (digit_value x) 16 l) refl) | inr l ↦ absurd (more l) ]
  where
    more : 16 ≤ digit_value x → ⊥
    more l = let e : hex_or_more x ≡ 65536 = rw (le-ltb (digit_value x) 16 l) refl in omega arith

below_each : (p q r s u : ℕ) → p * 4096 + q * 256 + r * 16 + s ≡ u → u < 65536 → (p < 65536) × (q < 65536) × (r < 65536) × (s < 65536)
below_each p q r s u e h = (omega arith, omega arith, omega arith, omega arith)

same_sum : (p q r s a b c d u : ℕ) → p ≡ a → q ≡ b → r ≡ c → s ≡ d → p * 4096 + q * 256 + r * 16 + s ≡ u → a * 4096 + b * 256 + c * 16 + d ≡ u
same_sum p q r s a b c d u f g h k e = omega arith

pub unit_spelled : (b : List ℕ) (i p q r s u : ℕ) → p ≡ hex_or_more (get_or b (i + 1) 0) → q ≡ hex_or_more (get_or b (i + 2) 0) → r ≡ hex_or_more (get_or b (i + 3) 0) → s ≡ hex_or_more (get_or b (i + 4) 0)
    → p * 4096 + q * 256 + r * 16 + s ≡ u → u < 65536 → HexAfter b i u
unit_spelled b i p q r s u f g h k e l =
    let m = below_each p q r s u e l in
    let w = hex_is (get_or b (i + 1) 0) (subst Below f m.0) in
    let x = hex_is (get_or b (i + 2) 0) (subst Below g m.1) in
    let y = hex_is (get_or b (i + 3) 0) (subst Below h m.2) in
    let z = hex_is (get_or b (i + 4) 0) (subst Below k m.3) in
    record { first = w.0; second = x.0; third = y.0; fourth = z.0; value = same_sum p q r s _ _ _ _ u (f ∙ w.1) (g ∙ x.1) (h ∙ y.1) (k ∙ z.1) e }
  where
    Below : ℕ → Type 0
    Below n = n < 65536
