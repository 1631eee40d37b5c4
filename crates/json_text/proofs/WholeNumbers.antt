-- Whether a whole text is a number.
use Rattle.std.proofs.Common.{◌≡◌, ◌≢◌, ℕ, suc, ◌-◌, ◌<◌, List, [], ◌∷◌, ◌++◌, length, get_or, drop, true, false, inl, inr, refl, sym, ap, ◌∙◌, subst, arith}
use Rattle.std.specs.Prelude.{IsTrue, ◌==◌}
use Rattle.std.proofs.lemmas.Bool.{cases_lt, cases_eq, eqb-true, eq-eqb, ne_eqb}
use Rattle.std.proofs.lemmas.List.{take_all}
use Rattle.json_grammar.specs.Given.{piece}
use Rattle.json_grammar.specs.Grammar.{number, IsDigit}
use Rattle.json_grammar.specs.NumberStates.{NumberState, at_start, after_zero, no_number, number_step, number_run, is_whole_number}
use Rattle.json_grammar.proofs.NumberRuns.{number_ends, no_number_goes_on}
use Rattle.json_grammar.proofs.NumberScan.{number_by_state, ended_whole}
use Rattle.json_text.specs.Numbers.{ReachesState, IsUnfinished, NumberTo, StopsAt}
use Rattle.json_io.proofs.Pieces.{drop_piece, drop_byte}

false_true : false ≡ true → ⊥
false_true e = cc

-- where no number goes on, none is whole
no_more : (b : List ℕ) (k : ℕ) (s : NumberState) → ReachesState b 0 k s → k < length b → number_step s (get_or b k 0) ≡ no_number → ¬ (number b)
no_more b k s h l e n =
    let row : b ≡ piece b 0 k ++ get_or b k 0 ∷ drop (suc k) b = drop_piece b 0 k (omega arith) ∙ ap (λ r. piece b 0 k ++ r) (drop_byte b k l) in
    no_number_goes_on (piece b 0 k) (get_or b k 0) (drop (suc k) b) (ap (λ t. number_step t (get_or b k 0)) h.leads ∙ e) (subst number row n)

state_of_all : (b : List ℕ) (k : ℕ) (s : NumberState) → ReachesState b 0 k s → k ≡ length b → number_run at_start b ≡ s
state_of_all b k s h e =
    let all : piece b 0 k ≡ b = take_all (k - 0) b (omega arith) in
    ap (number_run at_start) (sym all) ∙ h.leads

pub number_whole : (b : List ℕ) (e : ℕ) → NumberTo b 0 e → e ≡ length b → number b
number_whole b e h l = number_by_state b (ap is_whole_number (state_of_all b e h.state h.at l) ∙ h.ended)

pub number_before_end : (b : List ℕ) (e : ℕ) → NumberTo b 0 e → e ≢ length b → ¬ (number b)
number_before_end b e h n = let l : e < length b = omega (arith, h.at.within) in no_more b e h.state h.at l (h.no_further l)

not_whole : (s : NumberState) → IsUnfinished s → is_whole_number s ≡ false
not_whole s (inl e) = rw e refl
not_whole s (inr (inl e)) = rw e refl
not_whole s (inr (inr (inl e))) = rw e refl
not_whole s (inr (inr (inr e))) = rw e refl

-- no digit follows a leading zero
pub zero_ends : (d : ℕ) → IsDigit d → number_step after_zero d ≡ no_number
zero_ends d h = rw (ne_eqb d 46 (λ e. omega arith), ne_eqb d 101 (λ e. omega arith), ne_eqb d 69 (λ e. omega arith)) refl

pub number_stopped : (b : List ℕ) (k : ℕ) → StopsAt b 0 k → ¬ (number b)
number_stopped b k h n =
    elim h.why [
      | inl u ↦ elim (cases_lt k (length b)) [
        | inl l ↦ no_more b k h.state h.at l (u.1 l) n
        | inr l ↦
            let e : k ≡ length b = omega (arith, h.at.within) in
            let f : is_whole_number (number_run at_start b) ≡ false = ap is_whole_number (state_of_all b k h.state h.at e) ∙ not_whole h.state u.0 in
            false_true (sym f ∙ ended_whole _ (number_ends b n))
      ]
      | inr z ↦ no_more b k h.state h.at z.1 (ap (λ s. number_step s (get_or b k 0)) z.0 ∙ zero_ends _ z.2) n
    ]

pub number_decided : (b : List ℕ) (e : ℕ) → NumberTo b 0 e → (IsTrue (e == length b) → number b) × (number b → IsTrue (e == length b))
number_decided b e h = (
  λ k. number_whole b e h (eqb-true e (length b) k),
  λ n. elim (cases_eq e (length b)) [ inl k ↦ eq-eqb e (length b) k | inr k ↦ absurd (number_before_end b e h k n) ],
)

pub number_refused : (b : List ℕ) (k : ℕ) → StopsAt b 0 k → (IsTrue false → number b) × (number b → IsTrue false)
number_refused b k h = (λ t. absurd (false_true t), λ n. absurd (number_stopped b k h n))
