-- A text is a number exactly where the states end as a number does; how a number begins.
use Rattle.std.proofs.Common.{◌≡◌, ◌≢◌, ℕ, List, [], ◌∷◌, length, get_or, true, refl, ap, ◌∙◌}
use Rattle.std.proofs.lemmas.Bool.{and_parts, leb-true}
use Rattle.std.specs.Str.{all_ascii_digits}
use Rattle.json_grammar.specs.Grammar.{IsDigit, number}
use Rattle.json_grammar.specs.NumberStates.{at_start, after_minus, no_number, number_step}
use Rattle.json_grammar.proofs.NumberRuns.{number_ends, no_number_goes_on}
use Rattle.json_grammar.proofs.NumberScan.{number_by_state, ended_whole}
use Rattle.json_text.proofs.WholeNumbers.{zero_ends}
use Rattle.json_number.specs.Tests.{is_number_text}

pub number_from_test : (l : List ℕ) → is_number_text l ≡ true → number l
number_from_test l h = number_by_state l h

pub test_from_number : (l : List ℕ) → number l → is_number_text l ≡ true
test_from_number l n = ended_whole _ (number_ends l n)

-- no number begins with a plus
pub no_plus : (l : List ℕ) → number l → get_or l 0 0 ≢ 43
no_plus [] n e = cc
no_plus (x ∷ b) n e = no_number_goes_on [] x b (ap (number_step at_start) e) n

pub digit_of : (x : ℕ) (b : List ℕ) → all_ascii_digits (x ∷ b) ≡ true → IsDigit x
digit_of x b h = let p = and_parts _ _ h in let q = and_parts _ _ p.0 in (leb-true 48 x q.0, leb-true x 57 q.1)

pub zero_alone : (b : List ℕ) → number b → all_ascii_digits b ≡ true → get_or b 0 0 ≡ 48 → length b ≡ 1
zero_alone [] n h e = cc
zero_alone (x ∷ []) n h e = refl
zero_alone (x ∷ d ∷ r) n h e =
    let k = digit_of d r (and_parts _ _ h).1 in
    let s : number_step (number_step at_start x) d ≡ no_number = ap (λ y. number_step (number_step at_start y) d) e ∙ zero_ends d k in
    absurd (no_number_goes_on (x ∷ []) d r s n)

pub zero_alone_below : (b : List ℕ) → number (45 ∷ b) → all_ascii_digits b ≡ true → get_or b 0 0 ≡ 48 → length b ≡ 1
zero_alone_below [] n h e = cc
zero_alone_below (x ∷ []) n h e = refl
zero_alone_below (x ∷ d ∷ r) n h e =
    let k = digit_of d r (and_parts _ _ h).1 in
    let s : number_step (number_step after_minus x) d ≡ no_number = ap (λ y. number_step (number_step after_minus y) d) e ∙ zero_ends d k in
    absurd (no_number_goes_on (45 ∷ x ∷ []) d r s n)
