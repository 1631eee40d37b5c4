-- What copying a text leaves.
use Rattle.std.specs.Prelude.{◌≡◌, ◌<◌, ◌≤◌, ℕ, List, length, take, drop, Option, Some, None}

-- n is the length of the text; if there is room for it, it replaces the first bytes, and else no byte changes
pub record CopiesText (old new : List ℕ) (n : ℕ) (text : List ℕ) : Type 0 where
  pub measured : n ≡ length text
  pub copied : length text ≤ length old → take (length text) new ≡ text
  pub rest : drop (length text) new ≡ drop (length text) old
  pub refused : length old < length text → new ≡ old

-- so of a text that is there; no byte changes, and there is no length, if there is none
abbrev pub CopiesFound : List ℕ → List ℕ → Option ℕ → Option (List ℕ) → Type 0
CopiesFound old new (Some n) (Some text) = CopiesText old new n text
CopiesFound old new None None = new ≡ old
CopiesFound old new n text = ⊥
