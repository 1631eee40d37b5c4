-- Each line has an outcome, and only one.
use Rattle.std.proofs.Common.{◌≡◌, ◌⊎◌, ℕ, ◌≤◌, ◌==◌, Bool, true, false, List, [], ◌∷◌, length, inl, inr, refl, sym, ap, ◌∙◌, arith}
use Rattle.std.proofs.lemmas.Bool.{cases_lt, eqb-true, false≢true}
use Rattle.json_grammar.specs.Grammar.{IsWhitespace, ws, is_text}
use Rattle.json_grammar.specs.Tree.{Tree, depth}
use Rattle.json_grammar.proofs.Values.{one_tree}
use Rattle.json_io.specs.FaultText.{text_of}
use Rattle.json_text.specs.Ruled.{usual_rules}
use Rattle.json_io.specs.declared.error.ErrorCode.{ErrorCode}
use Rattle.json_io.specs.declared.error.Place.{Place}
use Rattle.json_command.specs.Input.{IsValid, InputFault}
use Rattle.json_command.proofs.Inputs.{one_input_fault, some_input_fault, valid_no_fault}
use Rattle.json_lines.specs.Cells.{LinesCommand, table_row}
use Rattle.json_lines.specs.Outcomes.{max_line, HasOutcome, too_long, blank, good, faulty, HaveOutcomes}
use Rattle.json_lines.specs.Rows.{Outcome, Row, Bad, AllHave, HasWithin, line_too_long}

-- ---- whitespace or not

some_space : (a b c d : Bool) (x : ℕ) → (x == 32) ≡ a → (x == 9) ≡ b → (x == 10) ≡ c → (x == 13) ≡ d → IsWhitespace x ⊎ ¬ (IsWhitespace x)
some_space true b c d x p q r s = inl (inl (eqb-true x 32 p))
some_space false true c d x p q r s = inl (inr (inl (eqb-true x 9 q)))
some_space false false true d x p q r s = inl (inr (inr (inl (eqb-true x 10 r))))
some_space false false false true x p q r s = inl (inr (inr (inr (eqb-true x 13 s))))
some_space false false false false x p q r s = inr none
  where
    none : ¬ (IsWhitespace x)
    none (inl h) = false≢true (sym p ∙ ap (λ y. y == 32) h)
    none (inr (inl h)) = false≢true (sym q ∙ ap (λ y. y == 9) h)
    none (inr (inr (inl h))) = false≢true (sym r ∙ ap (λ y. y == 10) h)
    none (inr (inr (inr h))) = false≢true (sym s ∙ ap (λ y. y == 13) h)

ws_step : (x : ℕ) (b : List ℕ) → IsWhitespace x ⊎ ¬ (IsWhitespace x) → ws b ⊎ ¬ (ws b) → ws (x ∷ b) ⊎ ¬ (ws (x ∷ b))
ws_step x b (inl h) (inl k) = inl (h, k)
ws_step x b (inl h) (inr n) = inr (λ w. n w.1)
ws_step x b (inr n) k = inr (λ w. n w.0)

ws_or_not : (b : List ℕ) → ws b ⊎ ¬ (ws b)
ws_or_not [] = inl tt
ws_or_not (x ∷ b) = ws_step x b (some_space (x == 32) (x == 9) (x == 10) (x == 13) x refl refl refl refl) (ws_or_not b)

-- ---- some outcome

by_input : (command : LinesCommand) (line : List ℕ) → length line ≤ max_line → ¬ (ws line) → IsValid usual_rules line ⊎ ((code : ErrorCode) × (place : Place) × InputFault usual_rules line code place) → (o : Outcome) × HasOutcome command line o
by_input command line short full (inl v) = (Row (table_row command v.tree), good v.tree short full v.input.text v.input.fit.0)
by_input command line short full (inr (code, place, fault)) = (Bad (text_of (record { code = code; place = place })), faulty code place short full fault)

by_space : (command : LinesCommand) (line : List ℕ) → length line ≤ max_line → ws line ⊎ ¬ (ws line) → (o : Outcome) × HasOutcome command line o
by_space command line short (inl space) = (Row [], blank short space)
by_space command line short (inr full) = by_input command line short full (some_input_fault usual_rules line)

pub some_outcome : (command : LinesCommand) (line : List ℕ) → (o : Outcome) × HasOutcome command line o
some_outcome command line = elim (cases_lt max_line (length line)) [ inl l ↦ (line_too_long, too_long l) | inr s ↦ by_space command line s (ws_or_not line) ]

-- ---- one outcome

valid : (line : List ℕ) (t : Tree) → length line ≤ max_line → is_text false t line → depth t ≤ 254 → IsValid usual_rules line
valid line t short h d = record { tree = t; input = record { short = omega (arith, short); text = h; fit = (d, λ u. absurd (cc)) } }

same_fault : (c c' : ErrorCode) (p p' : Place) → (c ≡ c') × (p ≡ p') → Bad (text_of (record { code = c; place = p })) ≡ Bad (text_of (record { code = c'; place = p' }))
same_fault c c' p p' (e, f) = rw (e, f) refl

pub one_outcome : (command : LinesCommand) (line : List ℕ) (o o' : Outcome) → HasOutcome command line o → HasOutcome command line o' → o ≡ o'
one_outcome command line o o' (too_long l) (too_long m) = refl
one_outcome command line o o' (too_long l) (blank s w) = absurd (omega (arith, l, s))
one_outcome command line o o' (too_long l) (good t s n h d) = absurd (omega (arith, l, s))
one_outcome command line o o' (too_long l) (faulty c p s n h) = absurd (omega (arith, l, s))
one_outcome command line o o' (blank s w) (too_long l) = absurd (omega (arith, l, s))
one_outcome command line o o' (blank s w) (blank r v) = refl
one_outcome command line o o' (blank s w) (good t r n h d) = absurd (n w)
one_outcome command line o o' (blank s w) (faulty c p r n h) = absurd (n w)
one_outcome command line o o' (good t s n h d) (too_long l) = absurd (omega (arith, l, s))
one_outcome command line o o' (good t s n h d) (blank r w) = absurd (n w)
one_outcome command line o o' (good t s n h d) (good u r m k e) = ap (λ x. Row (table_row command x)) (one_tree false t u line h k)
one_outcome command line o o' (good t s n h d) (faulty c p r m k) = absurd (valid_no_fault usual_rules line c p (valid line t s h d) k)
one_outcome command line o o' (faulty c p s n h) (too_long l) = absurd (omega (arith, l, s))
one_outcome command line o o' (faulty c p s n h) (blank r w) = absurd (n w)
one_outcome command line o o' (faulty c p s n h) (good t r m k e) = absurd (valid_no_fault usual_rules line c p (valid line t r k e) h)
one_outcome command line o o' (faulty c p s n h) (faulty c' p' r m k) = same_fault c c' p p' (one_input_fault usual_rules line c c' p p' h k)

-- these lines have outcomes
pub some_outcomes : (command : LinesCommand) (lines : List (List ℕ)) → (outcomes : List Outcome) × HaveOutcomes command lines outcomes
some_outcomes command [] = ([], tt)
some_outcomes command (line ∷ lines) = some_more (some_outcome command line) (some_outcomes command lines)
  where
    some_more : (o : Outcome) × HasOutcome command line o → (os : List Outcome) × HaveOutcomes command lines os → (os : List Outcome) × HaveOutcomes command (line ∷ lines) os
    some_more (o, h) (os, k) = (o ∷ os, (h, k))

-- ---- the limit

has_any : (command : LinesCommand) (line : List ℕ) (o : Outcome) → HasWithin max_line (HasOutcome command) line o → HasOutcome command line o
has_any command line o (inl (l, is)) = rw is (too_long l)
has_any command line o (inr (s, h)) = h

pub all_within : (command : LinesCommand) (lines : List (List ℕ)) (outcomes : List Outcome) → AllHave (HasWithin max_line (HasOutcome command)) lines outcomes → HaveOutcomes command lines outcomes
all_within command [] [] h = tt
all_within command (line ∷ lines) (o ∷ os) h = (has_any command line o h.0, all_within command lines os h.1)
all_within command [] (o ∷ os) h = absurd h
all_within command (line ∷ lines) [] h = absurd h
