-- Where a number ends in a text.
use Rattle.std.specs.Prelude.{◌≡◌, ℕ, List, ◌∷◌, ◌++◌}
use Rattle.json_grammar.specs.Tree.{Tree, null, boolean, num, text, list, pairs}
use Rattle.json_grammar.specs.Grammar.{number}

-- the number l goes no further where r follows: no number begins with l and the first byte of r
abbrev pub EndsNumber : List ℕ → List ℕ → Type 0
EndsNumber l r = (x : ℕ) (m n : List ℕ) → r ≡ x ∷ m → number (l ++ x ∷ n) → ⊥

-- where the tree is a number, it goes no further
abbrev pub TreeEnds : Tree → List ℕ → Type 0
TreeEnds null r = Unit {0}
TreeEnds (boolean v) r = Unit {0}
TreeEnds (num l) r = EndsNumber l r
TreeEnds (text s) r = Unit {0}
TreeEnds (list ts) r = Unit {0}
TreeEnds (pairs ps) r = Unit {0}
