-- Where an integer of few digits ends, and why there is none.
use Rattle.std.proofs.Common.{◌≡◌, ◌⊎◌, inl, inr, ◌∙◌, ℕ, ◌+◌, ◌<◌, ◌≤◌, List, [], ◌∷◌, ◌++◌, length, get_or, true, refl, sym, ap, subst, arith}
use Rattle.std.proofs.lemmas.Bool.{cases_lt, cases_eq, ne_eqb}
use Rattle.std.specs.Str.{all_ascii_digits}
use Rattle.std.specs.Str.Parse.{digits_value}
use Rattle.json_grammar.specs.Given.{piece}
use Rattle.json_grammar.specs.Grammar.{IsDigit, digits}
use Rattle.json_grammar.specs.NumberStates.{NumberState, at_start, after_zero, in_integer, after_dot, after_e, no_number, number_step, number_run, is_whole_number}
use Rattle.json_grammar.proofs.Moves.{piece_none}
use Rattle.json_grammar.proofs.NumberRuns.{digit_true, dot_then, e_then}
use Rattle.json_text.specs.Nexts.{IsShortInteger}
use Rattle.json_text.specs.Numbers.{NoDigit, HasInteger, GoesOn}
use Rattle.json_text.proofs.Integers.{are_digits}
use Rattle.json_io.proofs.Pieces.{piece_append, piece_cons}
use Rattle.json_text.proofs.WholeNumbers.{zero_ends}

later_digits : (p q : List ℕ) → digits (p ++ q) → digits q
later_digits [] q h = h
later_digits (x ∷ p) q h = later_digits p q h.1

-- each byte of a run of digits is one
pub digit_within : (b : List ℕ) (i k j : ℕ) → i ≤ k → k < j → j ≤ length b → digits (piece b i j) → IsDigit (get_or b k 0)
digit_within b i k j h l m d =
    let e : digits (piece b k j) = later_digits (piece b i k) (piece b k j) (subst digits (piece_append b i k j h (omega arith)) d) in
    let f : digits (get_or b k 0 ∷ piece b (k + 1) j) = subst digits (piece_cons b k j l (omega arith)) e in
    f.0

-- ---- the states of digits alone

abbrev OfDigits : NumberState → Type 0
OfDigits s = (s ≡ at_start) ⊎ (HasInteger s ⊎ (s ≡ no_number))

first_step : (x : ℕ) → IsDigit x → OfDigits (number_step at_start x)
first_step x d = elim (cases_eq x 48) [
  | inl z ↦ rw z (inr (inl (inl refl)))
  | inr z ↦ rw (ne_eqb x 45 (λ e. omega arith), ne_eqb x 48 z, digit_true x d) (inr (inl (inr refl)))
]

digit_step : (s : NumberState) (x : ℕ) → OfDigits s → IsDigit x → OfDigits (number_step s x)
digit_step s x (inl e) d = rw e (first_step x d)
digit_step s x (inr (inl (inl e))) d = inr (inr (ap (λ t. number_step t x) e ∙ zero_ends x d))
digit_step s x (inr (inl (inr e))) d = rw (e, digit_true x d) (inr (inl (inr refl)))
digit_step s x (inr (inr e)) d = rw e (inr (inr refl))

digits_run : (s : NumberState) (l : List ℕ) → OfDigits s → digits l → OfDigits (number_run s l)
digits_run s [] h d = h
digits_run s (x ∷ l) h d = digits_run (number_step s x) l (digit_step s x h d.0) d.1

whole_integer : (s : NumberState) → OfDigits s → is_whole_number s ≡ true → HasInteger s
whole_integer s (inl e) w = absurd (let f : is_whole_number at_start ≡ true = ap is_whole_number (sym e) ∙ w in cc)
whole_integer s (inr (inl e)) w = e
whole_integer s (inr (inr e)) w = absurd (let f : is_whole_number no_number ≡ true = ap is_whole_number (sym e) ∙ w in cc)

integer_state : (b : List ℕ) (i j : ℕ) (n : IsShortInteger b i j) → HasInteger n.number.state
integer_state b i j n =
    let d = digits_run at_start (piece b i j) (inl refl) (are_digits (piece b i j) n.digits) in
    whole_integer n.number.state (subst OfDigits n.number.at.leads d) n.number.ended

-- ---- where it ends

-- where a run of at most 19 digits ends that goes on as far, an integer ends that begins there
pub same_end : (b : List ℕ) (i d e : ℕ) → i ≤ d → d ≤ length b → d ≤ i + 19 → digits (piece b i d) → (d < i + 19 → NoDigit b d) → IsShortInteger b i e → e ≡ d
same_end b i d e h l m r stop n =
    let o = n.number.at.order in let w = n.number.at.within in let f = n.few in
    elim (cases_lt e d) [
      | inl k ↦ absurd (n.number.stop (omega arith) (digit_within b i e d o k l r))
      | inr k ↦ elim (cases_lt d e) [
        | inl u ↦ absurd (stop (omega arith) (omega arith) (digit_within b i d e h u w (are_digits (piece b i e) n.digits)))
        | inr u ↦ omega arith
      ]
    ]

pub one_integer : (b : List ℕ) (i d e : ℕ) → IsShortInteger b i d → IsShortInteger b i e → e ≡ d
one_integer b i d e m n = same_end b i d e m.number.at.order m.number.at.within m.few (are_digits (piece b i d) m.digits) (λ _. m.number.stop) n

-- its value is that of any integer that begins there
pub one_value : (b : List ℕ) (i d e v : ℕ) → IsShortInteger b i d → IsShortInteger b i e → v ≡ digits_value 10 (piece b i d) → v ≡ digits_value 10 (piece b i e)
one_value b i d e v m n h = h ∙ ap (λ j. digits_value 10 (piece b i j)) (sym (one_integer b i d e m n))

-- the same integer of another input at another place
pub moved : (b c : List ℕ) (i j e : ℕ) → b ≡ c → i ≡ j → IsShortInteger c j e → IsShortInteger b i e
moved b c i j e f g n = subst (λ k. IsShortInteger b k e) (sym g) (subst (λ y. IsShortInteger y j e) (sym f) n)

pub moved_value : (b c : List ℕ) (i j e most : ℕ) → b ≡ c → i ≡ j → digits_value 10 (piece c j e) ≤ most → digits_value 10 (piece b i e) ≤ most
moved_value b c i j e most f g n = subst (λ k. digits_value 10 (piece b k e) ≤ most) (sym g) (subst (λ y. digits_value 10 (piece y j e) ≤ most) (sym f) n)

-- ---- why there is none

no_start : (s : NumberState) → HasInteger s → at_start ≡ s → ⊥
no_start s (inl e) f = let g : at_start ≡ after_zero = f ∙ e in cc
no_start s (inr e) f = let g : at_start ≡ in_integer = f ∙ e in cc

not_empty : (b : List ℕ) (i : ℕ) → ¬ (IsShortInteger b i i)
not_empty b i n = no_start n.number.state (integer_state b i i n) (sym (ap (number_run at_start) (piece_none b i)) ∙ n.number.at.leads)

goes_on_step : (s : NumberState) (x : ℕ) → HasInteger s → (x ≡ 46) ⊎ ((x ≡ 101) ⊎ (x ≡ 69)) → number_step s x ≡ no_number → ⊥
goes_on_step s x h (inl e) f = let g : after_dot ≡ no_number = sym (ap (number_step s) e ∙ dot_then s h) ∙ f in cc
goes_on_step s x h (inr e) f = let g : after_e ≡ no_number = sym (e_then s (inl h) x e) ∙ f in cc

not_further : (b : List ℕ) (i j : ℕ) → IsShortInteger b i j → ¬ (GoesOn b j)
not_further b i j n (inl d) = n.number.stop d.0 d.1
not_further b i j n (inr (inl e)) = goes_on_step n.number.state (get_or b j 0) (integer_state b i j n) (inl e.1) (n.number.no_further e.0)
not_further b i j n (inr (inr (inl e))) = goes_on_step n.number.state (get_or b j 0) (integer_state b i j n) (inr (inl e.1)) (n.number.no_further e.0)
not_further b i j n (inr (inr (inr e))) = goes_on_step n.number.state (get_or b j 0) (integer_state b i j n) (inr (inr e.1)) (n.number.no_further e.0)

no_number_stays : (l : List ℕ) → number_run no_number l ≡ no_number
no_number_stays [] = refl
no_number_stays (x ∷ l) = no_number_stays l

-- no digit follows a leading zero
not_zero_led : (b : List ℕ) (i j : ℕ) → IsShortInteger b i j → get_or b i 0 ≡ 48 → ¬ (i + 1 < j)
not_zero_led b i j n z l =
    let w = n.number.at.within in
    let d = digit_within b i (i + 1) j (omega arith) l w (are_digits (piece b i j) n.digits) in
    let row : piece b i j ≡ 48 ∷ get_or b (i + 1) 0 ∷ piece b (i + 1 + 1) j = piece_cons b i j (omega arith) (omega arith) ∙ ap (λ x. x ∷ piece b (i + 1) j) z ∙ ap (λ r. 48 ∷ r) (piece_cons b (i + 1) j l (omega arith)) in
    let run : number_run at_start (piece b i j) ≡ no_number =
    ap (number_run at_start) row ∙ ap (λ s. number_run s (piece b (i + 1 + 1) j)) (zero_ends (get_or b (i + 1) 0) d) ∙ no_number_stays (piece b (i + 1 + 1) j) in
    no_end n.number.state (integer_state b i j n) (sym run ∙ n.number.at.leads)
  where
    no_end : (s : NumberState) → HasInteger s → no_number ≡ s → ⊥
    no_end s (inl e) f = let g : no_number ≡ after_zero = f ∙ e in cc
    no_end s (inr e) f = let g : no_number ≡ in_integer = f ∙ e in cc

-- the run has no digit, or goes on as no integer does, or begins with a zero and has more
abbrev pub NoInteger : List ℕ → ℕ → ℕ → Type 0
NoInteger b i d = (d ≡ i) ⊎ (GoesOn b d ⊎ ((get_or b i 0 ≡ 48) × (i + 1 < d)))

pub no_integer : (b : List ℕ) (i d : ℕ) → i ≤ d → d ≤ length b → d ≤ i + 19 → all_ascii_digits (piece b i d) ≡ true → (d < i + 19 → NoDigit b d) → NoInteger b i d → (e : ℕ) → ¬ (IsShortInteger b i e)
no_integer b i d h l m r stop why e n = by why (subst (IsShortInteger b i) (same_end b i d e h l m (are_digits (piece b i d) r) stop n) n)
  where
    by : NoInteger b i d → ¬ (IsShortInteger b i d)
    by (inl f) k = not_empty b i (subst (IsShortInteger b i) f k)
    by (inr (inl g)) k = not_further b i d k g
    by (inr (inr z)) k = not_zero_led b i d k z.0 z.1
