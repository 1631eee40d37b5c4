-- Which bytes are of which class, and one step of a reader of a query's text.
use Rattle.std.proofs.Common.{◌≡◌, ◌⊎◌, inl, inr, ℕ, suc, ◌≤◌, List, ◌∷◌, length, true, ◌==◌, ◌||◌, ap, arith}
use Rattle.std.proofs.lemmas.Bool.{cond_both, eqb-true, leb-true}
use Rattle.std.proofs.lemmas.Bool.Decides.{nat_tests}
use Rattle.json_grammar.specs.Grammar.{IsWhitespace, IsDigit}
use Rattle.json_query.specs.Text.{IsNameFirst}
use Rattle.json_query.specs.declared.error.QueryCode.{QueryCode}
use Rattle.json_query.specs.declared.cursor.Class.{Class}
use Rattle.json_query.specs.declared.cursor.Class.TheVariants.{Blank, QuotationMark, Root, Star, Comma, Minus, Dot, ZeroDigit, Digit, Colon, Question, Opening, Closing, Letter, BeyondAscii, Other}
use Rattle.json_query.specs.TextStates.{class_of, is_between, State, Step, goes_to, stops, step, is_refused, outcome, outcome_after}

abbrev pub InClass : Class → ℕ → Type 0
InClass Blank x = IsWhitespace x
InClass QuotationMark x = (x ≡ 34) ⊎ (x ≡ 39)
InClass Root x = x ≡ 36
InClass Star x = x ≡ 42
InClass Comma x = x ≡ 44
InClass Minus x = x ≡ 45
InClass Dot x = x ≡ 46
InClass ZeroDigit x = x ≡ 48
InClass Digit x = (49 ≤ x) × (x ≤ 57)
InClass Colon x = x ≡ 58
InClass Question x = x ≡ 63
InClass Opening x = x ≡ 91
InClass Closing x = x ≡ 93
InClass Letter x = ((65 ≤ x) × (x ≤ 90)) ⊎ ((97 ≤ x) × (x ≤ 122)) ⊎ (x ≡ 95)
InClass BeyondAscii x = 128 ≤ x
InClass Other x = Unit {0}

blank_is : (x : ℕ) → ((x == 32) || (x == 9) || (x == 10) || (x == 13)) ≡ true → IsWhitespace x
blank_is x e = grind (arith, nat_tests)

mark_is : (x : ℕ) → ((x == 34) || (x == 39)) ≡ true → (x ≡ 34) ⊎ (x ≡ 39)
mark_is x e = grind (arith, nat_tests)

digit_is : (x : ℕ) → is_between 49 57 x ≡ true → (49 ≤ x) × (x ≤ 57)
digit_is x e = grind (arith, nat_tests)

letter_is : (x : ℕ) → (is_between 65 90 x || is_between 97 122 x || (x == 95)) ≡ true → ((65 ≤ x) × (x ≤ 90)) ⊎ ((97 ≤ x) × (x ≤ 122)) ⊎ (x ≡ 95)
letter_is x e = grind (arith, nat_tests)

-- each byte is of its class
pub in_class : (x : ℕ) → InClass (class_of x) x
unfolding class_of
in_class x =
    let P : Class → Type 0 = λ c. InClass c x in
    cond_both _ _ _ P (blank_is x) (λ _.
    cond_both _ _ _ P (mark_is x) (λ _.
    cond_both _ _ _ P (eqb-true x 36) (λ _.
    cond_both _ _ _ P (eqb-true x 42) (λ _.
    cond_both _ _ _ P (eqb-true x 44) (λ _.
    cond_both _ _ _ P (eqb-true x 45) (λ _.
    cond_both _ _ _ P (eqb-true x 46) (λ _.
    cond_both _ _ _ P (eqb-true x 48) (λ _.
    cond_both _ _ _ P (digit_is x) (λ _.
    cond_both _ _ _ P (eqb-true x 58) (λ _.
    cond_both _ _ _ P (eqb-true x 63) (λ _.
    cond_both _ _ _ P (eqb-true x 91) (λ _.
    cond_both _ _ _ P (eqb-true x 93) (λ _.
    cond_both _ _ _ P (letter_is x) (λ _.
    cond_both _ _ _ P (leb-true 128 x) (λ _. tt)))))))))))))))

-- ---- the class of a byte

pub class_blank : (x : ℕ) → IsWhitespace x → class_of x ≡ Blank
unfolding class_of
class_blank x h = elim h [ inl e ↦ rw e | inr h ↦ elim h [ inl e ↦ rw e | inr h ↦ elim h [ inl e ↦ rw e | inr e ↦ rw e ] ] ]

pub class_digit : (x : ℕ) → 49 ≤ x → x ≤ 57 → class_of x ≡ Digit
unfolding class_of
class_digit x l u = grind (arith, nat_tests)

pub class_any_digit : (x : ℕ) → IsDigit x → (class_of x ≡ ZeroDigit) ⊎ (class_of x ≡ Digit)
unfolding class_of
class_any_digit x h = grind (arith, nat_tests)

pub class_high : (x : ℕ) → 128 ≤ x → class_of x ≡ BeyondAscii
unfolding class_of
class_high x h = grind (arith, nat_tests)

pub class_letter : (x : ℕ) → ((65 ≤ x) × (x ≤ 90)) ⊎ ((97 ≤ x) × (x ≤ 122)) ⊎ (x ≡ 95) → class_of x ≡ Letter
unfolding class_of
class_letter x h = grind (arith, nat_tests)

pub class_name_first : (x : ℕ) → IsNameFirst x → (class_of x ≡ Letter) ⊎ (class_of x ≡ BeyondAscii)
class_name_first x h = elim h [ inl a ↦ inl (class_letter x (inl a)) | inr h ↦ elim h [ inl a ↦ inl (class_letter x (inr (inl a))) | inr h ↦ elim h [ inl a ↦ inl (class_letter x (inr (inr a))) | inr a ↦ inr (class_high x a) ] ] ]

-- ---- steps

-- a byte leads from one state to another
pub goes : (s t : State) (x : ℕ) (r : List ℕ) → step s x ≡ goes_to t → outcome s (x ∷ r) ≡ outcome t r
goes s t x r e = ap (λ (u : Step). outcome_after u (suc (length r)) (λ t. outcome t r)) e

-- a reader stops before a byte
pub halts : (s : State) (c : QueryCode) (x : ℕ) (r : List ℕ) → step s x ≡ stops c → outcome s (x ∷ r) ≡ is_refused c (suc (length r))
halts s c x r e = ap (λ (u : Step). outcome_after u (suc (length r)) (λ t. outcome t r)) e
