-- Laws of the tokens that may follow.
use Rattle.std.specs.Prelude.{◌≡◌, ◌↔◌, ℕ, List, [], ◌∷◌, ◌++◌, Bool}
use Rattle.json_grammar.specs.declared.Kind.{Kind}
use Rattle.json_grammar.specs.declared.ExpectedPart.{ExpectedPart}
use Rattle.json_grammar.specs.Tree.{Tree, Token, tokens}
use Rattle.json_grammar.specs.Place.{reading}
use Rattle.json_grammar.specs.TokenStates.{TokenState, initial_state, state_in, state_after_value, after_tokens, ValueMayCome, MayCome, Accepts, BeginsTree, state_at}

-- the tokens that are accepted are those with which some tree's tokens begin
abbrev pub AcceptedBegins : Type 0
AcceptedBegins = (ts : List Token) → Accepts initial_state ts ↔ BeginsTree ts

-- after tokens with which some tree's begin, a token may follow where some tree's begin with it too
abbrev pub MayComeGoesOn : Type 0
MayComeGoesOn = (ts : List Token) (x : Token) → BeginsTree ts → MayCome (after_tokens initial_state ts) x ↔ BeginsTree (ts ++ x ∷ [])

-- nothing may follow where the tokens are those of a whole tree, and nowhere else
abbrev pub WholeIsTree : Type 0
WholeIsTree = (ts : List Token) → Accepts initial_state ts × (after_tokens initial_state ts ≡ state_in []) ↔ ((t : Tree) × (tokens t ≡ ts))

-- the tokens of a tree are accepted where a value may follow, and lead to where a value leads
abbrev pub TreeIsValue : Type 0
TreeIsValue = (s : TokenState) (t : Tree) → (ValueMayCome s.expected → Accepts s (tokens t)) × (after_tokens s (tokens t) ≡ state_after_value s)

-- the tokens of a prefix of a text are accepted, and lead to the state at its place
abbrev pub PlaceIsState : Type 0
PlaceIsState =
    (lossy : Bool) (p : List ℕ) (c : List Kind) (w : ExpectedPart) (ts : List Token)
    → reading lossy p c w ts
    → Accepts initial_state ts × (after_tokens initial_state ts ≡ state_at w c)
