-- A run goes on.
use Rattle.std.proofs.Common.{ℕ, ◌+◌, ◌<◌, ◌≤◌, List, [], ◌∷◌, ◌++◌, length, get_or, sym, subst}
use Rattle.json_grammar.specs.Given.{piece}
use Rattle.json_grammar.proofs.Moves.{piece_more, piece_none}
use Rattle.json_grammar.proofs.Texts.{AllPlain}
use Rattle.json_scan.specs.Runs.{IsPlain, plain}

plain_then : (d : List ℕ) (x : ℕ) → plain d → IsPlain x → plain (d ++ x ∷ [])
plain_then [] x h k = (k, tt)
plain_then (y ∷ d) x h k = (h.0, plain_then d x h.1 k)

pub plain_none : (b : List ℕ) (i : ℕ) → plain (piece b i i)
plain_none b i = subst plain (sym (piece_none b i)) tt

pub plain_more : (b : List ℕ) (i j : ℕ) → plain (piece b i j) → i ≤ j → j < length b → IsPlain (get_or b j 0) → plain (piece b i (j + 1))
plain_more b i j h k l d = subst plain (sym (piece_more b i j k l)) (plain_then (piece b i j) (get_or b j 0) h d)

pub all_plain : (d : List ℕ) → plain d → AllPlain d
all_plain [] h = tt
all_plain (x ∷ d) h = (h.0, all_plain d h.1)
