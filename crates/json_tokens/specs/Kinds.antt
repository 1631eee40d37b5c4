-- The kinds of tokens, and what a borrowed token denotes.
use Rattle.std.specs.Prelude.{◌≡◌, ℕ, ℤ, List, Option, Some, None}
use Rattle.json_grammar.specs.declared.Kind.TheVariants.{Array as array, Object as object}
use Rattle.json_grammar.specs.Grammar.{number}
use Rattle.json_grammar.specs.Tree.{Tree, null, boolean, num, text, list, pairs, Token as Tok, null_token, boolean_token, num_token, text_token, begin, end, key_token}
use Rattle.json_number.specs.declared.number.Number.{Number}
use Rattle.json_tokens.specs.declared.piece.Piece.{Piece}
use Rattle.json_number.specs.Integers.{integer_in}
use Rattle.json_number.specs.Numbers.{value_of, text_of_number}
use Rattle.json_tokens.specs.Pieces.{Says}
use Rattle.json_tokens.specs.declared.token.Token.{Token}
use Rattle.json_tokens.specs.declared.token.Token.TheVariants as token
use Rattle.json_tokens.specs.declared.token.TokenKind.{TokenKind}
use Rattle.json_tokens.specs.declared.token.TokenKind.TheVariants as kind

-- a number by value or by its literal
abbrev pub number_kind : Option ℤ → TokenKind
number_kind None = kind.Raw
number_kind (Some n) = kind.Int

-- the kind of a token
abbrev pub kind_of : Tok → TokenKind
kind_of null_token = kind.Null
kind_of (boolean_token b) = kind.Bool
kind_of (num_token l) = number_kind (integer_in l)
kind_of (text_token s) = kind.Text
kind_of (begin array) = kind.BeginArray
kind_of (begin object) = kind.BeginObject
kind_of (end array) = kind.EndArray
kind_of (end object) = kind.EndObject
kind_of (key_token s) = kind.Key

-- the kind of a tree's first token
abbrev pub first_kind : Tree → TokenKind
first_kind null = kind.Null
first_kind (boolean b) = kind.Bool
first_kind (num l) = number_kind (integer_in l)
first_kind (text s) = kind.Text
first_kind (list ts) = kind.BeginArray
first_kind (pairs ps) = kind.BeginObject

-- what a borrowed token denotes
abbrev pub DenotesToken : {S : Type 0} {g : _} → (S → List ℕ) → Token Number S (Piece S g) → Tok → Type 0
DenotesToken f token.Null x = x ≡ null_token
DenotesToken f (token.Bool b) x = x ≡ boolean_token b
DenotesToken f (token.Int n) x = (x ≡ num_token (text_of_number n)) × (integer_in (text_of_number n) ≡ Some (value_of n)) × number (text_of_number n)
DenotesToken f (token.Raw l) x = (x ≡ num_token (f l)) × (integer_in (f l) ≡ None) × number (f l)
DenotesToken f (token.Text p) x = (s : List ℕ) × Says s p.escaped (f p.text) × (x ≡ text_token s)
DenotesToken f (token.Key p) x = (s : List ℕ) × Says s p.escaped (f p.text) × (x ≡ key_token s)
DenotesToken f token.BeginArray x = x ≡ begin array
DenotesToken f token.EndArray x = x ≡ end array
DenotesToken f token.BeginObject x = x ≡ begin object
DenotesToken f token.EndObject x = x ≡ end object
