-- Escape sequences that set a color of a terminal, and texts with them.
use Rattle.std.specs.Prelude.{◌≡◌, ℕ, Bool, true, false, not, cond, ◌==◌, ◌&&◌, List, [], ◌∷◌, ◌++◌}
use Rattle.std.specs.List.{list_any}

-- there is a byte ESC
abbrev pub has_escape : List ℕ → Bool
has_escape w = list_any (λ x. x == 27) w

-- bytes that end with their first m
abbrev pub ends_at_m : List ℕ → Bool
ends_at_m [] = false
ends_at_m (x ∷ []) = x == 109
ends_at_m (x ∷ y ∷ w) = not (x == 109) && ends_at_m (y ∷ w)

-- one escape sequence: ESC and [, and what follows up to the first m
abbrev pub is_sequence : List ℕ → Bool
is_sequence (x ∷ y ∷ w) = x == 27 && (y == 91 && ends_at_m w)
is_sequence _ = false

-- the rest of a text, which begins within an escape sequence or not, without its sequences
abbrev pub unpainted_rest : Bool → List ℕ → List ℕ
unpainted_rest in_sequence [] = []
unpainted_rest true (x ∷ w) = unpainted_rest (not (x == 109)) w
unpainted_rest false (x ∷ w) = cond (x == 27) (unpainted_rest true w) (x ∷ unpainted_rest false w)

-- the text without its escape sequences: without each ESC and what follows it, up to the first m
abbrev pub unpainted : List ℕ → List ℕ
unpainted w = unpainted_rest false w

-- a painted form of the bytes was appended: without its escape sequences it is the bytes, whatever follows
pub record AppendsPainted (bytes old new : List ℕ) : Type 0 where
  pub text : List ℕ
  pub appended : new ≡ old ++ text
  pub shown : (rest : List ℕ) → has_escape bytes ≡ false → unpainted (text ++ rest) ≡ bytes ++ unpainted rest
