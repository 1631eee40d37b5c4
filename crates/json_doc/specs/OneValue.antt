-- What the reader of one value among others keeps.
use Rattle.std.specs.Prelude.{◌≡◌, ℕ, ◌+◌, ◌-◌, List, [], ◌∷◌, ◌++◌, Some, None}
use Rattle.json_grammar.specs.Tree.{Tree, tokens, Token, begin, end}
use Rattle.json_grammar.specs.TokenStates.{initial_state, MayCome}
use Rattle.json_io.specs.declared.error.Error.{Error}
use Rattle.json_text.specs.declared.event.Event.{Event}
use Rattle.json_text.specs.Events.{Means}
use Rattle.json_text.specs.Faults.{IsInValue}
use Rattle.json_text.specs.Parsing.{ParserState, HasGiven, IsDue}

-- the token may be the first one
abbrev pub TokenBeginsValue : Token → Type 0
TokenBeginsValue x = MayCome initial_state x

-- how many containers are open after a token, where n were before it
abbrev pub open_levels_after : Token → ℕ → ℕ
open_levels_after (begin k) n = n + 1
open_levels_after (end k) n = n - 1
open_levels_after _ n = n

-- the event is of the token that was handed out last, which begins a value
pub record HandedOut (p : ParserState) (first : Event) : Type 0 where
  pub token : Token
  pub means : Means first token
  pub begins : TokenBeginsValue token
  pub before : List Token
  pub given : HasGiven p (before ++ token ∷ [])
  pub unfailed : p.failure ≡ None

-- from the event on that old handed out last the tokens of the tree were handed out
pub record ReadsValue (old : ParserState) (first : Event) (t : Tree) (new : ParserState) : Type 0 where
  pub token : Token
  pub means : Means first token
  pub rest : List Token
  pub begins : tokens t ≡ token ∷ rest
  pub goes : (ts : List Token) → HasGiven old (ts ++ token ∷ []) → HasGiven new (ts ++ tokens t)
  pub unfailed : new.failure ≡ None

-- the parser refuses something within a value
pub record RefusesValue (p : ParserState) (e : Error) : Type 0 where
  pub kept : p.failure ≡ Some e
  pub due : IsDue p e
  pub in_value : IsInValue e.code
