-- Digits of literals.
use Rattle.std.proofs.Common.{◌≡◌, ◌≢◌, ◌∙◌, inl, inr, Bool, true, false, ℕ, zero, suc, ◌<◌, ◌≤◌, ℤ, pos, neg_ℤ, List, Option, Some, None, refl, ap, arith}
use Rattle.std.proofs.lemmas.Bool.{lt-ltb}
use Rattle.json_grammar.specs.Grammar.{number}
use Rattle.json_grammar.specs.NumberStates.{at_start, number_run}
use Rattle.json_grammar.proofs.NumberRuns.{number_ends}
use Rattle.json_grammar.proofs.NumberScan.{ended_whole}
use Rattle.json_number.proofs.Literals.{number_from_test}
use Rattle.json_number.specs.Tests.{is_number_text}
use Rattle.json_data.specs.Reading.{in_range, is_between, gives, refuses, read_number}
use Rattle.json_grammar.specs.Tree.{num}
use Rattle.json_io.specs.declared.error.ErrorCode.TheVariants.{TypeUnmatched, NumberOutOfRange}
use Rattle.json_number.specs.declared.any_width.IntegerLiteral.{IntegerLiteral}
use Rattle.json_number.specs.declared.any_width.IntegerLiteral.TheVariants.{NotInteger, Negative, NonNegative, TooBig}
use Rattle.json_model.specs.Datum.{integer_datum}
use Rattle.json_number.specs.Integers.{integer_in, whole_in}
use Rattle.json_number.specs.IntegerLiterals.{IsIntegerLiteral}

-- ---- an integer by value

pub fits_in : (low high : ℕ) (o : Option ℤ) (n : ℤ) → o ≡ Some n → is_between low high n ≡ true → in_range (is_between low high) o ≡ gives (integer_datum n)
fits_in low high o n e h = ap (in_range (is_between low high)) e ∙ rw h

pub low_enough : (n high : ℕ) → n < high → is_between 0 high (pos n) ≡ true
low_enough n high h = lt-ltb n high h

pub negative_enough : (n low high : ℕ) → 0 < n → n ≤ low → is_between low high (neg_ℤ (pos n)) ≡ true
negative_enough zero low high p h = absurd (omega arith)
negative_enough (suc n) low high p h = lt-ltb n low (omega arith)

-- a literal that is no integer by value
pub beyond : (l : List ℕ) (w : IntegerLiteral) → integer_in l ≡ None → IsIntegerLiteral (whole_in l) w → w ≢ NotInteger → read_number (num l) ≡ refuses NumberOutOfRange
beyond l NotInteger e h n = absurd (n refl)
beyond l (NonNegative v) e h n = rw (e, h)
beyond l (Negative (suc v)) e h n = rw (e, h.0)
beyond l (Negative zero) e h n = let k = h.1 in absurd (omega arith)
beyond l TooBig e (v, k, inl h) n = rw (e, h)
beyond l TooBig e (suc v, k, inr h) n = rw (e, h)
beyond l TooBig e (zero, k, inr h) n = absurd (omega arith)

pub no_integer : (l : List ℕ) → integer_in l ≡ None → whole_in l ≡ None → read_number (num l) ≡ refuses TypeUnmatched
no_integer l e h = rw (e, h)

-- ---- keys

pub is_a_number : (s : List ℕ) → number s → is_number_text s ≡ true
is_a_number s n = ended_whole (number_run at_start s) (number_ends s n)

pub no_number : (s : List ℕ) → ¬ (number s) → is_number_text s ≡ false
no_number s n = by (is_number_text s) refl
  where
    by : (b : Bool) → is_number_text s ≡ b → b ≡ false
    by true e = absurd (n (number_from_test s e))
    by false e = refl
