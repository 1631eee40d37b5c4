-- What the tokens of a text are.
use Rattle.std.specs.Prelude.{◌≡◌, ◌⊎◌, ℕ, ℤ, ◌+◌, ◌-◌, ◌<◌, ◌≤◌, List, [], ◌∷◌, ◌++◌, length, false, Option, Some, None, IfSome, option_map}
use Rattle.json_grammar.specs.declared.Kind.{Kind}
use Rattle.json_grammar.specs.declared.Kind.TheVariants.{Array as array, Object as object}
use Rattle.json_grammar.specs.Fault.{reads}
use Rattle.json_grammar.specs.Tree.{Tree, Token as Tok, tokens, depth}
use Rattle.json_grammar.specs.Place.{outside}
use Rattle.json_number.specs.Integers.{integer_in}
use Rattle.json_io.specs.declared.error.Error.{Error}
use Rattle.json_text.specs.declared.event.Event.{Event}
use Rattle.json_text.specs.declared.event.Event.TheVariants as event
use Rattle.json_io.specs.Errors.{no_memory}
use Rattle.json_text.specs.Events.{Means}
use Rattle.json_text.specs.Due.{NextNeeds}
use Rattle.json_text.specs.Faults.{IsFault, IsValueFault}
use Rattle.json_io.specs.Positions.{place_at}
use Rattle.json_text.specs.Parsing.{ParserState, input, consumed, HasGiven, SameInput, IsWhole, HasRead}
use Rattle.json_tokens.specs.declared.token.TokenKind.{TokenKind}
use Rattle.json_tokens.specs.declared.token.TokenKind.TheVariants as kind
use Rattle.json_tokens.specs.Kinds.{number_kind}
use Rattle.json_tokens.specs.Refusals.{is_refusal}
use Rattle.json_grammar.specs.TokenStates.{TokenState, initial_state, state_in, expected_before_value, state_at}
use Rattle.json_tokens.specs.ExpectedTokens.{KindMayCome}
use Rattle.json_tokens.specs.TokensStates.{TokensState, over_text}

-- where a value may follow, within the open containers
abbrev pub state_before_value : List Kind → TokenState
state_before_value c = record { opened = c; expected = expected_before_value c }

-- the state before a token of the kind, by the containers that are open after it
abbrev pub before : TokenKind → List Kind → TokenState
before kind.Key c = state_in (object ∷ outside c)
before kind.BeginArray c = state_before_value (outside c)
before kind.BeginObject c = state_before_value (outside c)
before kind.EndArray c = state_in (array ∷ c)
before kind.EndObject c = state_in (object ∷ c)
before _ c = state_before_value c

-- ---- events

-- the kind of an event's token; there is none at the end
abbrev pub event_kind : Event → TokenKind
event_kind event.Null = kind.Null
event_kind (event.Bool b) = kind.Bool
event_kind (event.Number l) = number_kind (integer_in l.now)
event_kind (event.Str s) = kind.Text
event_kind (event.Key s) = kind.Key
event_kind event.BeginArray = kind.BeginArray
event_kind event.EndArray = kind.EndArray
event_kind event.BeginObject = kind.BeginObject
event_kind event.EndObject = kind.EndObject
event_kind event.End = kind.Null

-- the integer by value of an event that is a number
abbrev pub event_integer : Event → Option ℤ
event_integer (event.Number l) = integer_in l.now
event_integer _ = None

abbrev pub parser_state : ParserState → TokenState
parser_state p = state_at p.expected p.open_kinds

-- one event was read, of a token that may follow
pub record ReadsAhead (old : ParserState) (e : Event) (new : ParserState) : Type 0 where
  pub same : SameInput old new
  pub goes : (ts : List Tok) → HasGiven old ts → (x : Tok) × Means e x × HasGiven new (ts ++ x ∷ [])
  pub forward : old.index < new.index
  pub inside : new.index ≤ length new.text
  pub expected : before (event_kind e) new.open_kinds ≡ parser_state old
  pub may : KindMayCome (parser_state old) (event_kind e)
  pub fresh : new.failure ≡ None

-- the value that is read has a fault, which is one of the text too, and is reported at the token
-- that needs the byte at its offset
pub record HasFault (p : ParserState) (e : Error) : Type 0 where
  pub offset : ℕ
  pub place : e.place ≡ place_at p.text (p.start + offset)
  pub in_text : IsFault p.lossy p.limit (input p) e.code offset
  pub in_value : IsValueFault p.lossy p.limit (input p) e.code offset
  pub needs : NextNeeds p.lossy (input p) (consumed p) e.code offset
  pub no_refusal : is_refusal e.code ≡ false

-- ---- sources

-- the reader of the text, an event that was read and not taken yet, and what was answered in the place of a token
pub record TextTokensState : Type 0 where
  pub parser : ParserState
  pub ahead : Option Event
  pub failed : Option Error

-- the tokens that were taken, before an event that was not
abbrev pub TakenBefore : Option Event → ParserState → List Tok → Type 0
TakenBefore None p ts = HasGiven p ts
TakenBefore (Some e) p ts = (x : Tok) × Means e x × HasGiven p (ts ++ x ∷ [])

abbrev pub text_taken : TextTokensState → List Tok → Type 0
text_taken s ts = TakenBefore s.ahead s.parser ts

abbrev pub state_before : Option Event → ParserState → TokenState
state_before None p = parser_state p
state_before (Some e) p = before (event_kind e) p.open_kinds

abbrev pub waiting : Option Event → ℕ
waiting None = 0
waiting (Some e) = 1

abbrev pub text_tokens_state : TextTokensState → TokensState
text_tokens_state s = record {
  input = over_text s.parser.text s.parser.start s.parser.lossy s.parser.limit;
  expected = state_before s.ahead s.parser;
  peeked = option_map event_kind s.ahead;
  left = (length s.parser.text - s.parser.index) + waiting s.ahead;
  failed = s.failed;
}

-- no token was peeked, taken or refused
pub record IsFreshReader (s : TextTokensState) : Type 0 where
  pub none : HasGiven s.parser []
  pub taken : text_taken s []
  pub expected : (text_tokens_state s).expected ≡ initial_state
  pub ahead : s.ahead ≡ None
  pub failed : s.failed ≡ None

-- the tokens that were taken are those of the value that is read there, whatever follows it
abbrev pub HasReadValue : TextTokensState → Type 0
HasReadValue s = (ts : List Tok) → text_taken s ts → (t : Tree) × reads s.parser.lossy (input s.parser) t (consumed s.parser) × (ts ≡ tokens t) × (depth t ≤ s.parser.limit)

-- why a source of a text answered an error: memory ran out, or the value has this fault
abbrev pub TextFails : ParserState → Error → Type 0
TextFails p e = (e ≡ no_memory) ⊎ HasFault p e

-- what is true of each source
pub record IsReadingText (s : TextTokensState) : Type 0 where
  pub given : (ts : List Tok) × text_taken s ts
  pub failed : IfSome s.failed (TextFails s.parser)
  pub fresh : s.failed ≡ None → s.parser.failure ≡ None
  pub order : s.parser.start ≤ s.parser.index
  pub read : IsWhole s.parser → HasRead s.parser
