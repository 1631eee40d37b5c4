-- The lines that are done, within all bytes.
use Rattle.std.proofs.Common.{◌≡◌, ℕ, ◌<◌, ◌≤◌, ◌==◌, Bool, true, false, cond, List, [], ◌∷◌, ◌++◌, length, Some, refl, sym, ap, ◌∙◌, subst, arith, append_assoc, append-nil}
use Rattle.std.proofs.lemmas.Bool.{false≢true, cond-false, eqb-true}
use Rattle.json_lines.specs.declared.line_reader.Line.{Line}
use Rattle.json_lines.specs.declared.line_reader.Line.TheVariants.{Whole, TooLong}
use Rattle.json_lines.specs.Lines.{lines, has_newline, first_line, after_line}
use Rattle.json_lines.specs.Reading.{IsLine}
use Rattle.json_lines.proofs.Newlines.{unended, alone, line_by_line}

-- these lines are those of these bytes: the lines of any prefix of the rest follow them
abbrev pub LinesAreDone : List ℕ → List (List ℕ) → List ℕ → Type 0
LinesAreDone passed done rest = (x y : List ℕ) → rest ≡ x ++ y → lines (passed ++ x) ≡ done ++ lines x

-- a line and its end
ending_step : (t : Bool) (b : ℕ) (xs : List ℕ) → (b == 10) ≡ t → cond t true (has_newline xs) ≡ true → (has_newline xs ≡ true → xs ≡ first_line xs ++ 10 ∷ after_line xs)
    → b ∷ xs ≡ cond t [] (b ∷ first_line xs) ++ 10 ∷ cond t xs (after_line xs)
ending_step true b xs is h later = ap (λ c. c ∷ xs) (eqb-true b 10 is)
ending_step false b xs is h later = ap (λ l. b ∷ l) (later h)

pub ending : (xs : List ℕ) → has_newline xs ≡ true → xs ≡ first_line xs ++ 10 ∷ after_line xs
ending [] h = absurd (false≢true h)
ending (b ∷ xs) h = ending_step (b == 10) b xs refl h (ending xs)

first-unbroken-step : (t : Bool) (b : ℕ) (xs : List ℕ) → has_newline (first_line xs) ≡ false → (b == 10) ≡ t → has_newline (cond t [] (b ∷ first_line xs)) ≡ false
first-unbroken-step true b xs k is = refl
first-unbroken-step false b xs k is = cond-false (b == 10) true (has_newline (first_line xs)) is ∙ k

-- no line ends in a line
pub first-unbroken : (xs : List ℕ) → has_newline (first_line xs) ≡ false
first-unbroken [] = refl
first-unbroken (b ∷ xs) = first-unbroken-step (b == 10) b xs (first-unbroken xs) refl

-- the lines of some bytes
pub lines_of_some : (xs : List ℕ) → 0 < length xs → lines xs ≡ first_line xs ∷ lines (after_line xs)
lines_of_some [] h = absurd (omega (arith, h))
lines_of_some (b ∷ xs) h = line_by_line (b ∷ xs)

some_after : (xs : List ℕ) (ys : List ℕ) → 0 < length (xs ++ 10 ∷ ys)
some_after [] ys = omega arith
some_after (x ∷ xs) ys = omega arith

-- a line, its end and more
pub lines_of_ending : (line rest : List ℕ) → has_newline line ≡ false → lines (line ++ 10 ∷ rest) ≡ line ∷ lines rest
lines_of_ending line rest h =
    let p = unended line (10 ∷ rest) h in
    lines_of_some (line ++ 10 ∷ rest) (some_after line rest) ∙ ap (λ l. l ∷ lines (after_line (line ++ 10 ∷ rest))) (p.0 ∙ append-nil line) ∙ ap (λ l. line ∷ lines l) p.1

-- a line without an end
pub lines_of_last : (line : List ℕ) → 0 < length line → has_newline line ≡ false → lines line ≡ line ∷ []
lines_of_last line some h = let p = alone line h in lines_of_some line some ∙ ap (λ l. l ∷ lines (after_line line)) p.0 ∙ ap (λ l. line ∷ lines l) p.1

-- the bytes of the first line and its newline
abbrev pub done_part : List ℕ → Bool → List ℕ
done_part xs true = first_line xs ++ 10 ∷ []
done_part xs false = xs

pub done-whole : (xs : List ℕ) (t : Bool) → has_newline xs ≡ t → xs ≡ done_part xs t ++ after_line xs
done-whole xs true h = ending xs h ∙ sym (append_assoc (first_line xs) (10 ∷ []) (after_line xs))
done-whole xs false h = sym (append-nil xs) ∙ ap (λ l. xs ++ l) (sym (alone xs h).1)

nil_left : (xs ys : List ℕ) → [] ≡ xs ++ ys → xs ≡ []
nil_left [] ys h = refl
nil_left (x ∷ xs) ys h = absurd (omega (arith, ap length h))

-- one line more, where one ends
pub LinesAreDone-ended : (passed : List ℕ) (done : List (List ℕ)) (xs left : List ℕ) → has_newline xs ≡ true → LinesAreDone passed done (xs ++ left) → LinesAreDone (passed ++ done_part xs true) (done ++ first_line xs ∷ []) (after_line xs ++ left)
LinesAreDone-ended passed done xs left h through x y is =
    let front = first_line xs ++ 10 ∷ [] in
    let whole : xs ++ left ≡ front ++ x ++ y =
    ap (λ l. l ++ left) (done-whole xs true h) ∙ append_assoc front (after_line xs) left ∙ ap (λ l. front ++ l) is ∙ sym (append_assoc front x y) in
    ap lines (append_assoc passed front x) ∙ through (front ++ x) y whole
    ∙ ap (λ l. done ++ l) (ap lines (append_assoc (first_line xs) (10 ∷ []) x) ∙ lines_of_ending (first_line xs) x (first-unbroken xs))
    ∙ sym (append_assoc done (first_line xs ∷ []) (lines x))

-- the last line, which does not end
pub LinesAreDone-last : (passed : List ℕ) (done : List (List ℕ)) (xs : List ℕ) → has_newline xs ≡ false → 0 < length xs → LinesAreDone passed done (xs ++ []) → LinesAreDone (passed ++ done_part xs false) (done ++ first_line xs ∷ []) (after_line xs ++ [])
LinesAreDone-last passed done xs h some through x y is =
    let p = alone xs h in
    let none : x ≡ [] = nil_left x y (ap (λ l. l ++ []) (sym p.1) ∙ is) in
    ap (λ l. lines (passed ++ xs ++ l)) none ∙ ap lines (append-nil (passed ++ xs)) ∙ through xs [] refl
    ∙ ap (λ l. done ++ l) (lines_of_last xs some h ∙ ap (λ l. l ∷ []) (sym p.0))
    ∙ sym (append-nil (done ++ first_line xs ∷ [])) ∙ ap (λ l. done ++ first_line xs ∷ [] ++ lines l) (sym none)

pub LinesAreDone-more : (t : Bool) (passed : List ℕ) (done : List (List ℕ)) (xs left : List ℕ) → has_newline xs ≡ t → 0 < length xs → (t ≡ false → left ≡ []) → LinesAreDone passed done (xs ++ left)
    → LinesAreDone (passed ++ done_part xs t) (done ++ first_line xs ∷ []) (after_line xs ++ left)
LinesAreDone-more true passed done xs left h some over through = LinesAreDone-ended passed done xs left h through
LinesAreDone-more false passed done xs left h some over through =
    subst (λ l. LinesAreDone (passed ++ done_part xs false) (done ++ first_line xs ∷ []) (after_line xs ++ l)) (sym (over refl))
    (LinesAreDone-last passed done xs h some (subst (λ l. LinesAreDone passed done (xs ++ l)) (over refl) through))

-- ---- the bytes after a line are fewer

after-step : (t : Bool) (xs : List ℕ) → length (after_line xs) ≤ length xs → length (cond t xs (after_line xs)) ≤ length xs
after-step true xs h = omega arith
after-step false xs h = h

after-short : (xs : List ℕ) → length (after_line xs) ≤ length xs
after-short [] = omega arith
after-short (b ∷ xs) = omega (arith, after-step (b == 10) xs (after-short xs))

pub after-shorter : (xs : List ℕ) → 0 < length xs → length (after_line xs) < length xs
after-shorter [] h = absurd (omega (arith, h))
after-shorter (b ∷ xs) h = omega (arith, after-step (b == 10) xs (after-short xs))

-- ---- the line that is returned

pub IsLine-some : (limit : ℕ) (bytes : List ℕ) (line : Line) → IsLine limit bytes (Some line) → 0 < length bytes
IsLine-some limit bytes (Whole line) is = is.0
IsLine-some limit [] TooLong is = absurd (omega (arith, is))
IsLine-some limit (b ∷ bytes) TooLong is = omega arith
