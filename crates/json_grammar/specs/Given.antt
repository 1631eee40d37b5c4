-- Where a reader is in an input, and what it has returned of the bytes that it took.
use Rattle.std.specs.Prelude.{◌≡◌, ℕ, Bool, ◌-◌, ◌<◌, ◌≤◌, List, [], ◌∷◌, ◌++◌, length, take, drop}
use Rattle.json_grammar.specs.declared.Kind.{Kind}
use Rattle.json_grammar.specs.Tree.{Token, num_token}
use Rattle.json_grammar.specs.declared.ExpectedPart.{ExpectedPart}
use Rattle.json_grammar.specs.declared.ExpectedPart.TheVariants.{Colon as colon, Done as done}
use Rattle.json_grammar.specs.Grammar.{string}
use Rattle.json_grammar.specs.Place.{TakesKey, reading}
use Rattle.json_grammar.specs.NumberEnds.{EndsNumber}

-- the bytes of b from the offset i up to j
abbrev pub piece : List ℕ → ℕ → ℕ → List ℕ
piece b i j = take (j - i) (drop i b)

-- where a value precedes r and it is a number, the number goes no further with r: of `12` the `1`
-- alone is no number of the text
abbrev pub LastEnds : ExpectedPart → List Token → List ℕ → Type 0
LastEnds w ts r = w ≡ done → (l : List ℕ) (a : List Token) → ts ≡ a ++ num_token l ∷ [] → EndsNumber l r

-- after the first i bytes of b the containers c are open, the innermost first, the state is w, and
-- the tokens are ts
pub record PrefixAt (lossy : Bool) (b : List ℕ) (i : ℕ) (c : List Kind) (w : ExpectedPart) (ts : List Token) : Type 0 where
  pub fits : i ≤ length b
  pub at : reading lossy (take i b) c w ts
  pub ends : LastEnds w ts (drop i b)

-- each name that is whole within the first k bytes of b is within the first i bytes: a reader that
-- took them has returned it
abbrev pub NamesReturned : Bool → List ℕ → ℕ → ℕ → Type 0
NamesReturned lossy b i k =
    (j n : ℕ) (c : List Kind) (w : ExpectedPart) (ts : List Token) (s : List ℕ)
    → j ≤ n
    → n ≤ k
    → n ≤ length b
    → reading lossy (take j b) c w ts
    → TakesKey w
    → string lossy s (piece b j n)
    → n ≤ i

-- no name ends after the first i bytes of b and within the first k
abbrev pub NoNameEnds : Bool → List ℕ → ℕ → ℕ → Type 0
NoNameEnds lossy b i k =
    (n : ℕ) (c : List Kind) (ts : List Token) → i < n → n ≤ k → ¬ (reading lossy (take n b) c colon ts)
