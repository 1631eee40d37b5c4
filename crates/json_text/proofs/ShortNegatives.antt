-- An integer of few digits after a minus.
use Rattle.std.proofs.Common.{◌≡◌, inl, inr, ◌∙◌, ℕ, ◌+◌, ◌<◌, ◌≤◌, List, ◌∷◌, length, get_or, true, refl, sym, ap, subst, arith}
use Rattle.std.proofs.lemmas.Bool.{cases_lt, ne_eqb}
use Rattle.std.specs.Str.{all_ascii_digits}
use Rattle.std.specs.Str.Parse.{digits_value}
use Rattle.json_grammar.specs.Given.{piece}
use Rattle.json_grammar.specs.Grammar.{IsDigit}
use Rattle.json_grammar.specs.NumberStates.{NumberState, at_start, after_minus, number_step, number_run, is_whole_number}
use Rattle.json_grammar.proofs.Moves.{piece_none}
use Rattle.json_text.specs.Nexts.{IsShortInteger}
use Rattle.json_text.specs.NextLiterals.{IsShortNegative}
use Rattle.json_scan.specs.Runs.{ByteAt}
use Rattle.json_text.proofs.Integers.{are_digits}
use Rattle.json_io.proofs.Pieces.{piece_cons, piece_single}
use Rattle.json_text.proofs.ShortIntegers.{digit_within, one_integer}

digit_step : (x : ℕ) → IsDigit x → number_step at_start x ≡ number_step after_minus x
digit_step x d = let l = d.0 in rw (ne_eqb x 45 (λ e. omega arith)) refl

minus_row : (b : List ℕ) (i j : ℕ) → ByteAt b i 45 → i < j → piece b i j ≡ 45 ∷ piece b (i + 1) j
minus_row b i j m h = piece_cons b i j h m.0 ∙ ap (λ x. x ∷ piece b (i + 1) j) m.1

-- digits after a minus lead if they lead alone
same_run : (b : List ℕ) (i j : ℕ) → ByteAt b i 45 → i + 1 < j → j ≤ length b → all_ascii_digits (piece b (i + 1) j) ≡ true → number_run at_start (piece b i j) ≡ number_run at_start (piece b (i + 1) j)
same_run b i j m h l d =
    let x = get_or b (i + 1) 0 in
    let row : piece b (i + 1) j ≡ x ∷ piece b (i + 1 + 1) j = piece_cons b (i + 1) j h (omega arith) in
    let digit : IsDigit x = digit_within b (i + 1) (i + 1) j (omega arith) h l (are_digits (piece b (i + 1) j) d) in
    ap (number_run at_start) (minus_row b i j m (omega arith)) ∙ ap (number_run after_minus) row ∙ ap (λ s. number_run s (piece b (i + 1 + 1) j)) (sym (digit_step x digit)) ∙ ap (number_run at_start) (sym row)

pub with_minus : (b : List ℕ) (i j : ℕ) → ByteAt b i 45 → i + 1 < j → IsShortInteger b (i + 1) j → IsShortNegative b i j
with_minus b i j m h n =
    let w = n.number.at.within in let f = n.few in
    record {
      number = record {
        state = n.number.state;
        at = record { order = omega arith; within = w; leads = same_run b i j m h w n.digits ∙ n.number.at.leads };
        ended = n.number.ended;
        stop = n.number.stop;
        no_further = n.number.no_further;
      };
      minus = m;
      digits = n.digits;
      few = omega arith;
    }

not_whole : (s : NumberState) → is_whole_number s ≡ true → at_start ≡ s → ⊥
not_whole s w e = let f : is_whole_number at_start ≡ true = ap is_whole_number e ∙ w in cc

no_minus_alone : (s : NumberState) → is_whole_number s ≡ true → after_minus ≡ s → ⊥
no_minus_alone s w e = let f : is_whole_number after_minus ≡ true = ap is_whole_number e ∙ w in cc

-- a digit is after the minus
long_enough : (b : List ℕ) (i j : ℕ) → IsShortNegative b i j → i + 1 < j
long_enough b i j n =
    let o = n.number.at.order in let m = n.minus in
    elim (cases_lt (i + 1) j) [
      | inl h ↦ h
      | inr h ↦ elim (cases_lt i j) [
        | inl k ↦
            let e : j ≡ i + 1 = omega arith in
            absurd (no_minus_alone n.number.state n.number.ended (sym (ap (λ y. number_run at_start (piece b i y)) e ∙ ap (number_run at_start) (piece_single b i 45 m.0 m.1)) ∙ n.number.at.leads))
        | inr k ↦
            let e : j ≡ i = omega arith in
            absurd (not_whole n.number.state n.number.ended (sym (ap (λ y. number_run at_start (piece b i y)) e ∙ ap (number_run at_start) (piece_none b i)) ∙ n.number.at.leads))
      ]
    ]

pub without_minus : (b : List ℕ) (i j : ℕ) → IsShortNegative b i j → IsShortInteger b (i + 1) j
without_minus b i j n =
    let h = long_enough b i j n in let w = n.number.at.within in let f = n.few in
    record {
      number = record {
        state = n.number.state;
        at = record { order = omega arith; within = w; leads = sym (same_run b i j n.minus h w n.digits) ∙ n.number.at.leads };
        ended = n.number.ended;
        stop = n.number.stop;
        no_further = n.number.no_further;
      };
      digits = n.digits;
      few = omega arith;
    }

-- its magnitude is that of any such number that begins there
pub one_magnitude : (b : List ℕ) (i d e v : ℕ) → IsShortNegative b i d → IsShortNegative b i e → v ≡ digits_value 10 (piece b (i + 1) d) → v ≡ digits_value 10 (piece b (i + 1) e)
one_magnitude b i d e v m n h = h ∙ ap (λ j. digits_value 10 (piece b (i + 1) j)) (sym (one_integer b (i + 1) d e (without_minus b i d m) (without_minus b i e n)))

-- the same number of another input at another place
pub moved_negative : (b c : List ℕ) (i j e : ℕ) → b ≡ c → i ≡ j → IsShortNegative c j e → IsShortNegative b i e
moved_negative b c i j e f g n = subst (λ k. IsShortNegative b k e) (sym g) (subst (λ y. IsShortNegative y j e) (sym f) n)

pub moved_magnitude : (b c : List ℕ) (i j e : ℕ) → b ≡ c → i ≡ j → digits_value 10 (piece c (j + 1) e) ≡ digits_value 10 (piece b (i + 1) e)
moved_magnitude b c i j e f g = sym (ap (λ y. digits_value 10 (piece y (i + 1) e)) f ∙ ap (λ k. digits_value 10 (piece c (k + 1) e)) g)

-- the literal is the minus and the digits
pub literal_digits : (b l : List ℕ) (i j : ℕ) → l ≡ piece b i j → IsShortNegative b i j → l ≡ 45 ∷ piece b (i + 1) j
literal_digits b l i j e n = let h = long_enough b i j n in e ∙ minus_row b i j n.minus (omega arith)
