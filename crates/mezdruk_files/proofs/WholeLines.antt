-- Bytes that end with a newline, and the lines of more bytes after them.
use Rattle.std.proofs.Common.{◌≡◌, ◌⊎◌, inl, inr, ℕ, zero, suc, ◌+◌, ◌-◌, ◌<◌, ◌≤◌, ◌==◌, ◌||◌, Bool, true, false, cond, List, [], ◌∷◌, ◌++◌, length, take, drop, get_or, refl, sym, ap, ◌∙◌, subst, append_assoc, append-nil, length-append, length-drop, arith}
use Rattle.std.proofs.lemmas.Bool.{false_from_ne_true, eqb-true}
use Rattle.std.proofs.lemmas.List.{take_all, take_more, take-append-le, take-append-drop, drop-drop, get_or-drop}
use Rattle.std.proofs.lemmas.List.Folds.{list_any-append}
use Rattle.std.specs.List.{onto_first}
use Rattle.memchr.specs.Find.{Passes, is_byte, Nowhere}
use Rattle.mezdruk_files.specs.Inputs.{AreWholeLines, has_newline}
use Rattle.mezdruk_files.specs.Outcomes.{PartOutcome, PartsHave}
use Rattle.mezdruk_files.specs.Parts.{DocumentPart, line_part, line_parts, lines_of}

-- ---- lines

-- some line is there, whatever the bytes before the newline
some_line : (t : Bool) (x : ℕ) (ls : List (List ℕ)) → (l : List ℕ) × (later : List (List ℕ)) × (cond t ([] ∷ ls) (onto_first x ls) ≡ l ∷ later)
some_line true x ls = ([], ls, refl)
some_line false x [] = (x ∷ [], [], refl)
some_line false x (l ∷ later) = (x ∷ l, later, refl)

first_is : (before : List ℕ) → (l : List ℕ) × (later : List (List ℕ)) × (lines_of (before ++ 10 ∷ []) ≡ l ∷ later)
first_is [] = ([], [], refl)
first_is (x ∷ before) = some_line (x == 10) x (lines_of (before ++ 10 ∷ []))

onto_first-append : (x : ℕ) (ls ms : List (List ℕ)) (l : List ℕ) (later : List (List ℕ)) → ls ≡ l ∷ later → onto_first x (ls ++ ms) ≡ onto_first x ls ++ ms
onto_first-append x ls ms l later e = rw e refl

lines_step : (t : Bool) (x : ℕ) (all ls ms : List (List ℕ)) (l : List ℕ) (later : List (List ℕ)) → ls ≡ l ∷ later → all ≡ ls ++ ms → cond t ([] ∷ all) (onto_first x all) ≡ cond t ([] ∷ ls) (onto_first x ls) ++ ms
lines_step true x all ls ms l later e is = ap (λ (later_lines : List (List ℕ)). [] ∷ later_lines) is
lines_step false x all ls ms l later e is = ap (onto_first x) is ∙ onto_first-append x ls ms l later e

lines_of-newline : (before more : List ℕ) → lines_of (before ++ 10 ∷ more) ≡ lines_of (before ++ 10 ∷ []) ++ lines_of more
lines_of-newline [] more = refl
lines_of-newline (x ∷ before) more =
    let f = first_is before in
    lines_step (x == 10) x (lines_of (before ++ 10 ∷ more)) (lines_of (before ++ 10 ∷ [])) (lines_of more) f.0 f.1 f.2 (lines_of-newline before more)

-- the lines of bytes after whole lines follow those
pub lines_of-whole : (whole more : List ℕ) → AreWholeLines whole → lines_of (whole ++ more) ≡ lines_of whole ++ lines_of more
lines_of-whole whole more (inl e) = rw e refl
lines_of-whole whole more (inr (before, e)) =
    ap (λ w. lines_of (w ++ more)) e ∙ ap lines_of (append_assoc before (10 ∷ []) more) ∙ lines_of-newline before more ∙ ap (λ w. lines_of w ++ lines_of more) (sym e)

pub whole_lines-append : (a b : List ℕ) → AreWholeLines a → AreWholeLines b → AreWholeLines (a ++ b)
whole_lines-append a b g (inl e) = subst AreWholeLines (sym (ap (λ x. a ++ x) e ∙ append-nil a)) g
whole_lines-append a b g (inr (before, e)) = inr (a ++ before, ap (λ x. a ++ x) e ∙ sym (append_assoc a before (10 ∷ [])))

-- bytes have no more lines than bytes
few_step : (t : Bool) (x : ℕ) (ls : List (List ℕ)) (n : ℕ) → length ls ≤ n → length (cond t ([] ∷ ls) (onto_first x ls)) ≤ n + 1
few_step true x ls n l = omega (arith, l)
few_step false x [] n l = omega arith
few_step false x (line ∷ ls) n l = omega (arith, l)

pub few_lines : (b : List ℕ) → length (lines_of b) ≤ length b
few_lines [] = omega arith
few_lines (x ∷ b) = let more : length (lines_of (x ∷ b)) ≤ length b + 1 = few_step (x == 10) x (lines_of b) (length b) (few_lines b) in omega (arith, more)

-- ---- their parts

pub line_parts-append : (name : List ℕ) (n m : ℕ) (xs ys : List (List ℕ)) → m ≡ n + length xs → line_parts name n (xs ++ ys) ≡ line_parts name n xs ++ line_parts name m ys
line_parts-append name n m [] ys e = let same : n ≡ m = omega (arith, e) in ap (λ k. line_parts name k ys) same
line_parts-append name n m (x ∷ xs) ys e = let next : m ≡ n + 1 + length xs = omega (arith, e) in ap (λ ps. line_part name n x ∷ ps) (line_parts-append name (n + 1) m xs ys next)

-- ---- outcomes

module _ (Has : DocumentPart → PartOutcome → Type 0) where
  pub parts_then : (whole : Bool) (ps qs : List DocumentPart) (os xs : List PartOutcome) → PartsHave true Has ps os → PartsHave whole Has qs xs → PartsHave whole Has (ps ++ qs) (os ++ xs)
  parts_then whole [] qs [] xs h k = k
  parts_then whole [] qs (o ∷ os) xs h k = absurd h
  parts_then whole (p ∷ ps) qs [] xs h k = absurd (true_false h)
    where
      true_false : true ≡ false → ⊥
      true_false e = cc
  parts_then whole (p ∷ ps) qs (o ∷ os) xs h k = (h.0, parts_then whole ps qs os xs h.1 k)

  pub parts_weaker : (ps : List DocumentPart) (os : List PartOutcome) → PartsHave true Has ps os → PartsHave false Has ps os
  parts_weaker [] [] h = tt
  parts_weaker [] (o ∷ os) h = absurd h
  parts_weaker (p ∷ ps) [] h = refl
  parts_weaker (p ∷ ps) (o ∷ os) h = (h.0, parts_weaker ps os h.1)

  nothing_yet : (ps : List DocumentPart) → PartsHave false Has ps []
  nothing_yet [] = tt
  nothing_yet (p ∷ ps) = refl

  -- the outcomes of all are those of the first parts of more
  pub parts_first : (ps qs : List DocumentPart) (os : List PartOutcome) → PartsHave true Has ps os → PartsHave false Has (ps ++ qs) os
  parts_first ps qs os h = subst (PartsHave false Has (ps ++ qs)) (append-nil os) (parts_then false ps qs os [] h (nothing_yet qs))

  pub parts_begin : (ps qs : List DocumentPart) (os : List PartOutcome) → PartsHave false Has ps os → PartsHave false Has (ps ++ qs) os
  parts_begin [] qs [] h = nothing_yet qs
  parts_begin [] qs (o ∷ os) h = absurd h
  parts_begin (p ∷ ps) qs [] h = refl
  parts_begin (p ∷ ps) qs (o ∷ os) h = (h.0, parts_begin ps qs os h.1)

-- the outcomes of whole lines, and of lines after them
module _ (Has : DocumentPart → PartOutcome → Type 0) (name whole : List ℕ) (ended : AreWholeLines whole) where
  parts_of : (more : List ℕ) → line_parts name 0 (lines_of (whole ++ more)) ≡ line_parts name 0 (lines_of whole) ++ line_parts name (length (lines_of whole)) (lines_of more)
  parts_of more = ap (line_parts name 0) (lines_of-whole whole more ended) ∙ line_parts-append name 0 (length (lines_of whole)) (lines_of whole) (lines_of more) (omega arith)

  pub lines_then : (all : Bool) (more : List ℕ) (n : ℕ) (os xs : List PartOutcome) → n ≡ length (lines_of whole) → PartsHave true Has (line_parts name 0 (lines_of whole)) os → PartsHave all Has (line_parts name n (lines_of more)) xs
      → PartsHave all Has (line_parts name 0 (lines_of (whole ++ more))) (os ++ xs)
  lines_then all more n os xs is h k =
      subst (λ ps. PartsHave all Has ps (os ++ xs)) (sym (parts_of more))
      (parts_then Has all (line_parts name 0 (lines_of whole)) (line_parts name (length (lines_of whole)) (lines_of more)) os xs h (subst (λ m. PartsHave all Has (line_parts name m (lines_of more)) xs) is k))

  pub lines_first : (more : List ℕ) (os : List PartOutcome) → PartsHave true Has (line_parts name 0 (lines_of whole)) os → PartsHave false Has (line_parts name 0 (lines_of (whole ++ more))) os
  lines_first more os h = subst (λ ps. PartsHave false Has ps os) (sym (parts_of more)) (parts_first Has (line_parts name 0 (lines_of whole)) (line_parts name (length (lines_of whole)) (lines_of more)) os h)

  -- the first of whole lines are the first of more
  pub lines_begin : (more : List ℕ) (os : List PartOutcome) → PartsHave false Has (line_parts name 0 (lines_of whole)) os → PartsHave false Has (line_parts name 0 (lines_of (whole ++ more))) os
  lines_begin more os h = subst (λ ps. PartsHave false Has ps os) (sym (parts_of more)) (parts_begin Has (line_parts name 0 (lines_of whole)) (line_parts name (length (lines_of whole)) (lines_of more)) os h)

-- ---- bytes without a newline

none_in : (b : List ℕ) → Nowhere (Passes (is_byte 10) b) 0 (length b) → has_newline b ≡ false
none_in [] h = refl
none_in (x ∷ b) h =
    let here : (x == 10) ≡ false = false_from_ne_true (x == 10) (h 0 (omega arith) (omega arith)) in
    rw here (none_in b (λ k low high. h (suc k) (omega arith) (omega arith)))

none_after : (n : ℕ) (b : List ℕ) → Nowhere (Passes (is_byte 10) b) n (length b) → has_newline (drop n b) ≡ false
none_after zero b h = none_in b h
none_after (suc n) [] h = refl
none_after (suc n) (x ∷ b) h = none_after n b (λ k low high. h (suc k) (omega arith) (omega arith))

-- the last newline of the bytes from an offset on is the end of the lines
pub after_last : (held : List ℕ) (from last : ℕ) → Nowhere (Passes (is_byte 10) (drop from held)) (last + 1) (length (drop from held)) → has_newline (drop (from + last + 1) held) ≡ false
after_last held from last h =
    let same : from + (last + 1) ≡ from + last + 1 = omega arith in
    subst (λ n. has_newline (drop n held) ≡ false) same (subst (λ b. has_newline b ≡ false) (drop-drop (last + 1) from held) (none_after (last + 1) (drop from held) h))

or_false : (a b : Bool) → a ≡ false → b ≡ false → (a || b) ≡ false
or_false a b e f = rw (e, f) refl

pub none_from : (held : List ℕ) (from : ℕ) → has_newline (take from held) ≡ false → Nowhere (Passes (is_byte 10) (drop from held)) 0 (length (drop from held)) → has_newline held ≡ false
none_from held from h k =
    subst (λ b. has_newline b ≡ false) (take-append-drop from held)
    (list_any-append (λ x. x == 10) (take from held) (drop from held) ∙ or_false (has_newline (take from held)) (has_newline (drop from held)) h (none_in (drop from held) k))

-- what ends with a newline
whole_take : (b : List ℕ) (n : ℕ) → n < length b → get_or b n 0 ≡ 10 → AreWholeLines (take (n + 1) b)
whole_take b n l e = inr (take n b, take_more b n 0 l ∙ ap (λ x. take n b ++ x ∷ []) e)

pub up_to_last : (held : List ℕ) (from last : ℕ) → last < length (drop from held) → Passes (is_byte 10) (drop from held) last → AreWholeLines (take (from + last + 1) held)
up_to_last held from last l h =
    let here : get_or held (from + last) 0 ≡ 10 = sym (get_or-drop from held last 0) ∙ eqb-true (get_or (drop from held) last 0) 10 h in
    whole_take held (from + last) (omega (arith, l, length-drop from held)) here

-- the bytes that were held before a read
pub held_before : (held bytes : List ℕ) → take (length (held ++ bytes) - length bytes) (held ++ bytes) ≡ held
held_before held bytes =
    let n : length (held ++ bytes) - length bytes ≡ length held = omega (arith, length-append held bytes) in
    ap (λ k. take k (held ++ bytes)) n ∙ take-append-le (length held) held bytes (omega arith) ∙ take_all (length held) held (omega arith)
