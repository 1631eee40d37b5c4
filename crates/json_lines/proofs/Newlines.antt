-- Where the first line ends.
use Rattle.std.proofs.Common.{◌≡◌, ℕ, zero, suc, ◌+◌, ◌<◌, ◌==◌, Bool, true, false, cond, List, [], ◌∷◌, ◌++◌, length, drop, Option, None, Some, refl, ap, ◌∙◌, arith}
use Rattle.std.proofs.lemmas.Bool.{both_ways, cond-true, cond-false, false_from_ne_true}
use Rattle.std.specs.List.{slice_split, onto_first}
use Rattle.memchr.specs.Find.{Passes, is_byte, Nowhere, IsFirstByte}
use Rattle.json_lines.specs.Lines.{has_newline, first_line, after_line, IsFirstNewline, without_empty_last, lines, LineByLine}

-- no line ends in the first part
unended_step : (t : Bool) (b : ℕ) (xs ys : List ℕ) → cond t true (has_newline xs) ≡ false
    → (has_newline xs ≡ false → (first_line (xs ++ ys) ≡ xs ++ first_line ys) × (after_line (xs ++ ys) ≡ after_line ys) × (has_newline (xs ++ ys) ≡ has_newline ys))
    → (cond t [] (b ∷ first_line (xs ++ ys)) ≡ b ∷ (xs ++ first_line ys)) × (cond t (xs ++ ys) (after_line (xs ++ ys)) ≡ after_line ys) × (cond t true (has_newline (xs ++ ys)) ≡ has_newline ys)
unended_step true b xs ys h later = absurd (both_ways true h refl)
unended_step false b xs ys h later = let p = later h in (ap (λ l. b ∷ l) p.0, p.1, p.2)

pub unended : (xs ys : List ℕ) → has_newline xs ≡ false → (first_line (xs ++ ys) ≡ xs ++ first_line ys) × (after_line (xs ++ ys) ≡ after_line ys) × (has_newline (xs ++ ys) ≡ has_newline ys)
unended [] ys h = (refl, refl, refl)
unended (b ∷ xs) ys h = unended_step (b == 10) b xs ys h (unended xs ys)

-- a line ends in the first part
ended_step : (t : Bool) (b : ℕ) (xs ys : List ℕ) → cond t true (has_newline xs) ≡ true
    → (has_newline xs ≡ true → (first_line (xs ++ ys) ≡ first_line xs) × (after_line (xs ++ ys) ≡ after_line xs ++ ys) × (has_newline (xs ++ ys) ≡ true))
    → (cond t [] (b ∷ first_line (xs ++ ys)) ≡ cond t [] (b ∷ first_line xs)) × (cond t (xs ++ ys) (after_line (xs ++ ys)) ≡ cond t xs (after_line xs) ++ ys) × (cond t true (has_newline (xs ++ ys)) ≡ true)
ended_step true b xs ys h later = (refl, refl, refl)
ended_step false b xs ys h later = let p = later h in (ap (λ l. b ∷ l) p.0, p.1, p.2)

pub ended : (xs ys : List ℕ) → has_newline xs ≡ true → (first_line (xs ++ ys) ≡ first_line xs) × (after_line (xs ++ ys) ≡ after_line xs ++ ys) × (has_newline (xs ++ ys) ≡ true)
ended [] ys h = absurd (both_ways false refl h)
ended (b ∷ xs) ys h = ended_step (b == 10) b xs ys h (ended xs ys)

-- no line ends at all
alone_step : (t : Bool) (b : ℕ) (xs : List ℕ) → cond t true (has_newline xs) ≡ false
    → (has_newline xs ≡ false → (first_line xs ≡ xs) × (after_line xs ≡ []))
    → (cond t [] (b ∷ first_line xs) ≡ b ∷ xs) × (cond t xs (after_line xs) ≡ [])
alone_step true b xs h later = absurd (both_ways true h refl)
alone_step false b xs h later = let p = later h in (ap (λ l. b ∷ l) p.0, p.1)

pub alone : (xs : List ℕ) → has_newline xs ≡ false → (first_line xs ≡ xs) × (after_line xs ≡ [])
alone [] h = (refl, refl)
alone (b ∷ xs) h = alone_step (b == 10) b xs h (alone xs)

-- the search for a byte 0A
none_is : (bytes : List ℕ) → Nowhere (Passes (is_byte 10) bytes) 0 (length bytes) → has_newline bytes ≡ false
none_is [] h = refl
none_is (b ∷ bs) h =
    let here : (b == 10) ≡ false = false_from_ne_true (b == 10) (h 0 (omega arith) (omega arith)) in
    cond-false (b == 10) true (has_newline bs) here ∙ none_is bs (λ k low high. h (suc k) (omega arith) (omega arith))

some_is : (bytes : List ℕ) (k : ℕ) → k < length bytes → Nowhere (Passes (is_byte 10) bytes) 0 k → Passes (is_byte 10) bytes k → IsFirstNewline bytes (Some k)
some_is [] k high before here = absurd (omega arith)
some_is (b ∷ bs) zero high before here =
    (omega arith, cond-true (b == 10) true (has_newline bs) here, cond-true (b == 10) [] (b ∷ first_line bs) here, cond-true (b == 10) bs (after_line bs) here)
some_is (b ∷ bs) (suc k) high before here =
    let skip : (b == 10) ≡ false = false_from_ne_true (b == 10) (before 0 (omega arith) (omega arith)) in
    let shift : suc (k + 1) ≡ suc k + 1 = omega arith in
    let p = some_is bs k (omega arith) (λ i low below. before (suc i) (omega arith) (omega arith)) here in
    (high, cond-false (b == 10) true (has_newline bs) skip ∙ p.1, cond-false (b == 10) [] (b ∷ first_line bs) skip ∙ ap (λ l. b ∷ l) p.2, cond-false (b == 10) bs (after_line bs) skip ∙ p.3 ∙ ap (λ i. drop i (b ∷ bs)) shift)

pub IsFirstNewline-found : (bytes : List ℕ) (r : Option ℕ) → IsFirstByte (is_byte 10) bytes r → IsFirstNewline bytes r
IsFirstNewline-found bytes None h = none_is bytes h
IsFirstNewline-found bytes (Some k) h = some_is bytes k h.0.high h.0.before h.1

-- ---- lines

split_step : (t : Bool) (b : ℕ) (bs : List ℕ) → slice_split (λ b. b == 10) bs ≡ first_line bs ∷ cond (has_newline bs) (slice_split (λ b. b == 10) (after_line bs)) []
    → cond t ([] ∷ slice_split (λ b. b == 10) bs) (onto_first b (slice_split (λ b. b == 10) bs))
    ≡ cond t [] (b ∷ first_line bs) ∷ cond (cond t true (has_newline bs)) (slice_split (λ b. b == 10) (cond t bs (after_line bs))) []
split_step true b bs h = refl
split_step false b bs h = ap (onto_first b) h

split_is : (bytes : List ℕ) → slice_split (λ b. b == 10) bytes ≡ first_line bytes ∷ cond (has_newline bytes) (slice_split (λ b. b == 10) (after_line bytes)) []
split_is [] = refl
split_is (b ∷ bs) = split_step (b == 10) b bs (split_is bs)

counted_cons : (piece next : List ℕ) (later : List (List ℕ)) → without_empty_last (piece ∷ next ∷ later) ≡ piece ∷ without_empty_last (next ∷ later)
counted_cons [] next later = refl
counted_cons (b ∷ bs) next later = refl

-- after a line that ends, the others follow
counted-more : (piece : List ℕ) (rest : List ℕ) → without_empty_last (piece ∷ slice_split (λ b. b == 10) rest) ≡ piece ∷ without_empty_last (slice_split (λ b. b == 10) rest)
counted-more piece rest = rw (split_is rest) (counted_cons piece (first_line rest) _)

line_by_line-cases : (t : Bool) (b : ℕ) (bs : List ℕ) → has_newline (b ∷ bs) ≡ t
    → without_empty_last (first_line (b ∷ bs) ∷ cond t (slice_split (λ b. b == 10) (after_line (b ∷ bs))) []) ≡ first_line (b ∷ bs) ∷ lines (after_line (b ∷ bs))
line_by_line-cases true b bs h = counted-more (first_line (b ∷ bs)) (after_line (b ∷ bs))
line_by_line-cases false b bs h =
    let p = alone (b ∷ bs) h in
    rw (p.0, p.1) refl

pub line_by_line : (bytes : List ℕ) → LineByLine bytes
line_by_line [] = refl
line_by_line (b ∷ bs) = ap without_empty_last (split_is (b ∷ bs)) ∙ line_by_line-cases (has_newline (b ∷ bs)) b bs refl
