-- A run of digits goes on.
use Rattle.std.proofs.Common.{ℕ, ◌+◌, ◌<◌, ◌≤◌, List, [], ◌∷◌, ◌++◌, length, get_or, sym, subst}
use Rattle.json_grammar.specs.Given.{piece}
use Rattle.json_grammar.specs.Grammar.{IsDigit, digits}
use Rattle.json_grammar.proofs.Moves.{piece_more}

digits_then : (d : List ℕ) (x : ℕ) → digits d → IsDigit x → digits (d ++ x ∷ [])
digits_then [] x h k = (k, tt)
digits_then (y ∷ d) x h k = (h.0, digits_then d x h.1 k)

pub digits_on : (b : List ℕ) (i j : ℕ) → digits (piece b i j) → i ≤ j → j < length b → IsDigit (get_or b j 0) → digits (piece b i (j + 1))
digits_on b i j h k l d = subst digits (sym (piece_more b i j k l)) (digits_then (piece b i j) (get_or b j 0) h d)
