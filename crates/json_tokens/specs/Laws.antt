-- Laws on sources of tokens.
use Rattle.std.specs.Prelude.{◌≡◌, List, ◌++◌}
use Rattle.json_grammar.specs.Tree.{Tree, Token as Tok, tokens}
use Rattle.json_tokens.specs.Text.{TextTokensState, text_taken}
use Rattle.json_tokens.specs.Values.{value_taken}
use Rattle.json_tokens.specs.declared.value_tokens.ValueTokens.{ValueTokens}

-- the tokens that were taken of a text are one list
abbrev pub OneTextRow : Type 0
OneTextRow = (s : TextTokensState) (ts us : List Tok) → text_taken s ts → text_taken s us → ts ≡ us

-- and begin those of a tree
abbrev pub TextRowBegins : Type 0
TextRowBegins = (s : TextTokensState) (ts : List Tok) → text_taken s ts → (t : Tree) × (rest : List Tok) × (tokens t ≡ ts ++ rest)

-- the same of a value
abbrev pub OneValueRow : Type 0
OneValueRow = (s : ValueTokens) (ts us : List Tok) → value_taken s ts → value_taken s us → ts ≡ us

abbrev pub ValueRowBegins : Type 0
ValueRowBegins = (s : ValueTokens) (ts : List Tok) → value_taken s ts → (t : Tree) × (rest : List Tok) × (tokens t ≡ ts ++ rest)
