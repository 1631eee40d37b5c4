-- Where the next value or name begins after what a reader took, and what is there.
use Rattle.std.specs.Prelude.{◌≡◌, ℕ, ◌+◌, ◌<◌, ◌≤◌, List, [], ◌∷◌, length, get_or, true, Some}
use Rattle.std.specs.Str.{all_ascii_digits}
use Rattle.std.specs.Str.Parse.{digits_value}
use Rattle.json_grammar.specs.declared.Kind.{Kind}
use Rattle.json_grammar.specs.declared.ExpectedPart.{ExpectedPart}
use Rattle.json_grammar.specs.declared.ExpectedPart.TheVariants.{Value as at_value, Colon as colon, Done as done}
use Rattle.json_grammar.specs.Grammar.{IsWhitespace, ws}
use Rattle.json_grammar.specs.Given.{piece}
use Rattle.json_grammar.specs.Place.{after_comma, bracket, closing, TakesValue, TakesKey, TakesEnd}
use Rattle.json_text.specs.Numbers.{NumberTo}
use Rattle.json_text.specs.Parsing.{ParserState, input, consumed}
use Rattle.json_scan.specs.Runs.{ByteAt}
use Rattle.json_text.specs.Spelled.{IsStringAt}
use Rattle.json_text.specs.Stack.{top}

-- whitespace lies from i up to k, and none at k (RFC 8259, section 2)
pub record SpaceTo (b : List ℕ) (i k : ℕ) : Type 0 where
  pub order : i ≤ k
  pub within : k ≤ length b
  pub space : ws (piece b i k)
  pub stop : k < length b → ¬ (IsWhitespace (get_or b k 0))

-- from i up to k are whitespace, the byte x and whitespace
pub record MarkTo (x : ℕ) (b : List ℕ) (i k : ℕ) : Type 0 where
  pub mark : ℕ
  pub before : SpaceTo b i mark
  pub is_there : ByteAt b mark x
  pub after : SpaceTo b (mark + 1) k

-- after i, in the open containers c in the state w, the next value or name begins at k, where v may
-- follow: after the colon of a name, after the comma of a container, and else after whitespace
-- alone
abbrev pub NextAt : List ℕ → ℕ → List Kind → ExpectedPart → ℕ → ExpectedPart → Type 0
NextAt b i c colon k v = MarkTo 58 b i k × (v ≡ at_value)
NextAt b i (x ∷ c) done k v = MarkTo 44 b i k × (v ≡ after_comma x)
NextAt b i [] done k v = ⊥
NextAt b i c w k v = SpaceTo b i k × (v ≡ w)

-- so after what a parser took
abbrev pub NextPart : ParserState → ℕ → ExpectedPart → Type 0
NextPart s k v = NextAt (input s) (consumed s) s.open_kinds s.expected k v

-- a number of at most 19 digits, and nothing else, lies from i up to j and goes no further
pub record IsShortInteger (b : List ℕ) (i j : ℕ) : Type 0 where
  pub number : NumberTo b i j
  pub digits : all_ascii_digits (piece b i j) ≡ true
  pub few : j ≤ i + 19

-- such a number is next as a value, and is at most `most`
pub record IntegerNext (s : ParserState) (most : ℕ) : Type 0 where
  pub at : ℕ
  pub expected : ExpectedPart
  pub next : NextPart s at expected
  pub takes : TakesValue expected
  pub to : ℕ
  pub integer : IsShortInteger (input s) at to
  pub value : digits_value 10 (piece (input s) at to) ≤ most

-- a string is next as a value, whole and with no fault in it
pub record TextNext (s : ParserState) : Type 0 where
  pub at : ℕ
  pub expected : ExpectedPart
  pub next : NextPart s at expected
  pub takes : TakesValue expected
  pub raw : List ℕ
  pub to : ℕ
  pub string : IsStringAt s.lossy (input s) at raw to

-- a string is next as the name of a member, whole and with no fault in it
pub record NameNext (s : ParserState) : Type 0 where
  pub at : ℕ
  pub expected : ExpectedPart
  pub next : NextPart s at expected
  pub takes : TakesKey expected
  pub raw : List ℕ
  pub to : ℕ
  pub string : IsStringAt s.lossy (input s) at raw to

-- the bracket that opens a container of the kind is next as a value, and one more level fits
pub record BeginNext (s : ParserState) (k : Kind) : Type 0 where
  pub at : ℕ
  pub expected : ExpectedPart
  pub next : NextPart s at expected
  pub takes : TakesValue expected
  pub is_there : ByteAt (input s) at (bracket k)
  pub fits : length s.open_kinds < s.limit

-- the bracket that closes the innermost container is next, which is of the kind and may end
pub record EndNext (s : ParserState) (k : Kind) : Type 0 where
  pub at : ℕ
  pub space : SpaceTo (input s) (consumed s) at
  pub takes : TakesEnd k s.expected
  pub innermost : top s.open_kinds ≡ Some k
  pub is_there : ByteAt (input s) at (closing k)
