-- The lines of some bytes: the pieces between newlines. The last piece counts unless it is empty.
use Rattle.std.specs.Prelude.{◌≡◌, ℕ, ◌+◌, ◌<◌, ◌==◌, Bool, false, true, List, [], ◌∷◌, length, take, drop, None, Some, if◌then◌else◌}
use Rattle.std.specs.List.{slice_split}
use Rattle.std.specs.declared.option.Option.{Option}

-- the pieces, the last one only where it is not empty
abbrev pub without_empty_last : List (List ℕ) → List (List ℕ)
without_empty_last [] = []
without_empty_last ([] ∷ []) = []
without_empty_last ((b ∷ bs) ∷ []) = (b ∷ bs) ∷ []
without_empty_last (piece ∷ next ∷ later) = piece ∷ without_empty_last (next ∷ later)

-- the lines of these bytes, without their newlines
abbrev pub lines : List ℕ → List (List ℕ)
lines bytes = without_empty_last (slice_split (λ b. b == 10) bytes)

-- whether these bytes contain a newline
abbrev pub has_newline : List ℕ → Bool
has_newline [] = false
has_newline (b ∷ bs) = if b == 10 then true else has_newline bs

-- the bytes before the first newline, all of them where there is none
abbrev pub first_line : List ℕ → List ℕ
first_line [] = []
first_line (b ∷ bs) = if b == 10 then [] else b ∷ first_line bs

-- the bytes after the first newline
abbrev pub after_line : List ℕ → List ℕ
after_line [] = []
after_line (b ∷ bs) = if b == 10 then bs else after_line bs

-- the lines are the first one and then those after it
abbrev pub LineByLine : List ℕ → Type 0
LineByLine [] = lines [] ≡ []
LineByLine (b ∷ bs) = lines (b ∷ bs) ≡ first_line (b ∷ bs) ∷ lines (after_line (b ∷ bs))

-- the offset of the first newline, if any
abbrev pub IsFirstNewline : List ℕ → Option ℕ → Type 0
IsFirstNewline bytes None = has_newline bytes ≡ false
IsFirstNewline bytes (Some k) = (k < length bytes) × (has_newline bytes ≡ true) × (first_line bytes ≡ take k bytes) × (after_line bytes ≡ drop (k + 1) bytes)
