-- What is given to events.
use Rattle.std.specs.Prelude.{ℤ, List, [], ◌∷◌}
use Rattle.std.specs.Fmt.{signed_decimal}
use Rattle.json_grammar.specs.Tree.{Token, num_token}

-- a token, or an integer by value
pub data TokenOrInteger : Type 0 where
  given : Token → TokenOrInteger
  given_integer : ℤ → TokenOrInteger

-- its token: an integer is a number by its decimal text
abbrev pub token_of : TokenOrInteger → Token
token_of (given t) = t
token_of (given_integer n) = num_token (signed_decimal n)

-- the tokens of what is given, in turn
abbrev pub given_tokens : List TokenOrInteger → List Token
given_tokens [] = []
given_tokens (g ∷ gs) = token_of g ∷ given_tokens gs
