-- Bytes that are filtered in pieces, where the first piece ends with a newline.
use Rattle.std.proofs.Common.{◌≡◌, inl, inr, ℕ, ◌+◌, ◌==◌, Bool, true, false, ◌||◌, List, [], ◌∷◌, ◌++◌, length, refl, sym, ap, ◌∙◌, subst, append_assoc}
use Rattle.std.proofs.lemmas.Bool.{cond-false, eqb-true}
use Rattle.json_lines.specs.Cells.{LinesCommand}
use Rattle.json_lines.specs.Laws.{EndsWithNewline, Filters}
use Rattle.json_lines.specs.Lines.{lines, has_newline}
use Rattle.json_lines.specs.Outcomes.{HasOutcome, HaveOutcomes}
use Rattle.json_lines.specs.Rows.{rows_of, errors_from, some_bad}
use Rattle.json_lines.proofs.LinesDone.{lines_of_ending}
use Rattle.json_lines.proofs.Newlines.{unended}
use Rattle.json_lines.proofs.Totals.{rows_of-append, errors_from-append, some_bad-append, AllHave-append, AllHave-length}

-- the first byte of the rest is a newline
apart_ends : (line front b : List ℕ) (x : ℕ) → has_newline line ≡ false → x ≡ 10 → lines (front ++ 10 ∷ b) ≡ lines (front ++ 10 ∷ []) ++ lines b → lines (line ++ x ∷ (front ++ 10 ∷ b)) ≡ lines (line ++ x ∷ (front ++ 10 ∷ [])) ++ lines b
apart_ends line front b x h is later =
    ap (λ y. lines (line ++ y ∷ (front ++ 10 ∷ b))) is ∙ lines_of_ending line (front ++ 10 ∷ b) h ∙ ap (λ l. line ∷ l) later
    ∙ ap (λ l. l ++ lines b) (sym (lines_of_ending line (front ++ 10 ∷ []) h)) ∙ ap (λ y. lines (line ++ y ∷ (front ++ 10 ∷ [])) ++ lines b) (sym is)

-- it is none
apart_goes_on : (line front b : List ℕ) (x : ℕ) → lines (line ++ x ∷ [] ++ (front ++ 10 ∷ b)) ≡ lines (line ++ x ∷ [] ++ (front ++ 10 ∷ [])) ++ lines b → lines (line ++ x ∷ (front ++ 10 ∷ b)) ≡ lines (line ++ x ∷ (front ++ 10 ∷ [])) ++ lines b
apart_goes_on line front b x later =
    ap lines (sym (append_assoc line (x ∷ []) (front ++ 10 ∷ b))) ∙ later ∙ ap (λ l. lines l ++ lines b) (append_assoc line (x ∷ []) (front ++ 10 ∷ []))

one_more : (line : List ℕ) (x : ℕ) → has_newline line ≡ false → (x == 10) ≡ false → has_newline (line ++ x ∷ []) ≡ false
one_more line x h not = (unended line (x ∷ []) h).2 ∙ cond-false (x == 10) true false not

apart_by : (t : Bool) (line front b : List ℕ) (x : ℕ) → has_newline line ≡ false → (x == 10) ≡ t → lines (front ++ 10 ∷ b) ≡ lines (front ++ 10 ∷ []) ++ lines b
    → (has_newline (line ++ x ∷ []) ≡ false → lines (line ++ x ∷ [] ++ (front ++ 10 ∷ b)) ≡ lines (line ++ x ∷ [] ++ (front ++ 10 ∷ [])) ++ lines b)
    → lines (line ++ x ∷ (front ++ 10 ∷ b)) ≡ lines (line ++ x ∷ (front ++ 10 ∷ [])) ++ lines b
apart_by true line front b x h is first later = apart_ends line front b x h (eqb-true x 10 is) first
apart_by false line front b x h not first later = apart_goes_on line front b x (later (one_more line x h not))

-- `line` is the beginning of a line, and `front` what follows before the newline at the end
lines_apart : (front line b : List ℕ) → has_newline line ≡ false → lines (line ++ (front ++ 10 ∷ b)) ≡ lines (line ++ (front ++ 10 ∷ [])) ++ lines b
lines_apart [] line b h = lines_of_ending line b h ∙ ap (λ l. l ++ lines b) (sym (lines_of_ending line [] h))
lines_apart (x ∷ front) line b h = apart_by (x == 10) line front b x h refl (lines_apart front [] b refl) (λ k. lines_apart front (line ++ x ∷ []) b k)

pub lines_in_pieces : (a b : List ℕ) → EndsWithNewline a → lines (a ++ b) ≡ lines a ++ lines b
lines_in_pieces a b (inl none) = ap (λ l. lines (l ++ b)) none ∙ ap (λ l. lines l ++ lines b) (sym none)
lines_in_pieces a b (inr (front, is)) =
    ap (λ l. lines (l ++ b)) is ∙ ap lines (append_assoc front (10 ∷ []) b) ∙ lines_apart front [] b refl ∙ ap (λ l. lines l ++ lines b) (sym is)

pub piece_by_piece : (command : LinesCommand) (number : ℕ) (a b rows rows' errors errors' : List ℕ) (bad bad' : Bool) → EndsWithNewline a → Filters command number a rows errors bad → Filters command (number + length (lines a)) b rows' errors' bad'
    → Filters command number (a ++ b) (rows ++ rows') (errors ++ errors') (bad || bad')
piece_by_piece command number a b rows rows' errors errors' bad bad' ends f g =
    let os = f.outcomes in
    let ps = g.outcomes in
    let count : length os ≡ length (lines a) = AllHave-length (HasOutcome command) (lines a) os f.have in
    record {
      outcomes = os ++ ps;
      have = subst (λ l. HaveOutcomes command l (os ++ ps)) (sym (lines_in_pieces a b ends)) (AllHave-append (HasOutcome command) (lines a) (lines b) os ps f.have g.have);
      rows_so = ap (λ l. l ++ rows') f.rows_so ∙ ap (λ l. rows_of os ++ l) g.rows_so ∙ sym (rows_of-append os ps);
      errors_so = ap (λ l. l ++ errors') f.errors_so ∙ ap (λ l. errors_from number os ++ l) g.errors_so ∙ ap (λ n. errors_from number os ++ errors_from (number + n) ps) (sym count) ∙ sym (errors_from-append number os ps);
      bad_so = ap (λ t. t || bad') f.bad_so ∙ ap (λ t. some_bad os || t) g.bad_so ∙ sym (some_bad-append os ps);
    }
