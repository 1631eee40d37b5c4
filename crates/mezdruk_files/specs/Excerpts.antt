-- The line of the input that an error is at, with a caret under its column.
use Rattle.std.specs.Prelude.{◌≡◌, ◌==◌, ℕ, ◌+◌, ◌-◌, ◌<◌, ◌≤◌, min, Bool, true, ◌&&◌, ◌||◌, cond, nat_le, nat_lt, List, [], ◌∷◌, ◌++◌, length, take, drop, map, slice_index, codes}
use Rattle.std.specs.List.{after_last, before_first, flat_map}

-- the bytes of the line of an offset before it, and those from it on
abbrev pub line_before : List ℕ → ℕ → List ℕ
line_before bytes offset = after_last (λ x. x == 10) (take offset bytes)

abbrev pub line_after : List ℕ → ℕ → List ℕ
line_after bytes offset = before_first (λ x. x == 10) (drop offset bytes)

-- the byte that is shown: a space for a control character
abbrev pub excerpt_byte : ℕ → ℕ
excerpt_byte x = cond (nat_lt x 32 || x == 127) 32 x

-- a byte of a character that is not its first one
abbrev pub is_continuation : ℕ → Bool
is_continuation x = nat_le 128 x && nat_lt x 192

-- a space for each character: one for its first byte, and none for the others
abbrev pub space_under : ℕ → List ℕ
space_under x = cond (is_continuation x) [] (32 ∷ [])

-- at most n of the first bytes, or of the last ones: all if there are no more; else one byte more
-- would split a character, up to n
pub record IsFront (bytes : List ℕ) (max : ℕ) (front : List ℕ) : Type 0 where
  pub rest : List ℕ
  pub whole : bytes ≡ front ++ rest
  pub few : length front ≤ max
  pub all : length bytes ≤ max → rest ≡ []
  pub full : (k : ℕ) → length front < k → k ≤ max → max < length bytes → is_continuation (slice_index bytes k) ≡ true

pub record IsBack (bytes : List ℕ) (max : ℕ) (back : List ℕ) : Type 0 where
  pub rest : List ℕ
  pub whole : bytes ≡ rest ++ back
  pub few : length back ≤ max
  pub all : length bytes ≤ max → rest ≡ []
  pub full : (k : ℕ) → length bytes - max ≤ k → k < length rest → is_continuation (slice_index bytes k) ≡ true

-- at most 76 bytes of the line, which are all if it has no more, and below them a caret under the byte at the offset
pub record IsExcerpt (bytes : List ℕ) (offset : ℕ) (excerpt : List ℕ) : Type 0 where
  pub cut_before : List ℕ
  pub before : List ℕ
  pub line_before_is : line_before bytes offset ≡ cut_before ++ before
  pub after : List ℕ
  pub cut_after : List ℕ
  pub line_after_is : line_after bytes offset ≡ after ++ cut_after
  pub narrow : length before + length after ≤ 76
  -- of a longer line 38 bytes before the offset are shown, and what there is room for after it
  pub after_is : IsFront (line_after bytes offset) (76 - min (length (line_before bytes offset)) 38) after
  pub before_is : IsBack (line_before bytes offset) (76 - length after) before
  pub whole_line : length (line_before bytes offset) + length (line_after bytes offset) ≤ 76 → (cut_before ≡ []) × (cut_after ≡ [])
  pub shown : excerpt ≡ map excerpt_byte before ++ map excerpt_byte after ++ codes "\n" ++ flat_map space_under before ++ codes "^\n"
