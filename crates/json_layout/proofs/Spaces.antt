-- Whitespace byte by byte.
use Rattle.std.proofs.Common.{ℕ, zero, suc, ◌<◌, List, [], ◌∷◌, length, get_or, arith}
use Rattle.json_grammar.specs.Grammar.{IsWhitespace, ws}

pub ws_at : (b : List ℕ) (i : ℕ) → i < length b → ws b → IsWhitespace (get_or b i 0)
ws_at [] i l h = absurd (omega arith)
ws_at (x ∷ b) zero l h = h.0
ws_at (x ∷ b) (suc i) l h = ws_at b i (omega arith) h.1
