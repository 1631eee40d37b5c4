-- What a clause sees of a parser.
use Rattle.std.specs.Prelude.{◌≡◌, ℕ, ◌+◌, ◌-◌, ◌<◌, ◌≤◌, List, [], ◌∷◌, ◌++◌, length, get_or, take, drop, Bool, Option, Some, IfSome, Result, OnOk, IfOk, IfErr, None}
use Rattle.json_grammar.specs.declared.Kind.{Kind}
use Rattle.json_grammar.specs.declared.ExpectedPart.{ExpectedPart}
use Rattle.json_grammar.specs.declared.ExpectedPart.TheVariants as expected
use Rattle.json_grammar.specs.Tree.{Tree, depth, Token, tokens}
use Rattle.json_grammar.specs.Grammar.{is_text}
use Rattle.json_grammar.specs.Given.{piece, LastEnds}
use Rattle.json_grammar.specs.Fault.{reads}
use Rattle.json_grammar.specs.Needs.{IsGap}
use Rattle.json_io.specs.declared.error.Error.{Error}
use Rattle.json_text.specs.declared.event.Event.{Event}
use Rattle.json_text.specs.declared.event.Event.TheVariants as event
use Rattle.json_text.specs.Events.{Means, IsRead, raw_size, event_bytes, EndsToken}
use Rattle.json_text.specs.Faults.{IsFault, FaultFrom, IsInValue}
use Rattle.json_text.specs.Due.{NextNeeds}
use Rattle.json_io.specs.Positions.{place_at}
use Rattle.json_text.specs.Readers.{ReaderAt}

-- the whole text and where reading began in it; whether it is read in the lossy mode; the most
-- levels of a tree; the place after what was taken, counted from the beginning of the text; the
-- open containers, the innermost first; what may follow; and what was refused
pub record ParserState : Type 0 where
  pub text : List ℕ
  pub start : ℕ
  pub lossy : Bool
  pub limit : ℕ
  pub index : ℕ
  pub open_kinds : List Kind
  pub expected : ExpectedPart
  pub failure : Option Error

-- of a parser that took that many bytes of what it reads
abbrev pub state_of : List ℕ → ℕ → Bool → ℕ → ℕ → List Kind → ExpectedPart → Option Error → ParserState
state_of text start lossy limit at c w f = record { text = text; start = start; lossy = lossy; limit = limit; index = start + at; open_kinds = c; expected = w; failure = f }

-- what is read
abbrev pub input : ParserState → List ℕ
input s = drop s.start s.text

-- how many bytes of it were taken
abbrev pub consumed : ParserState → ℕ
consumed s = s.index - s.start

-- the events so far, End aside, were these tokens
abbrev pub HasGiven : ParserState → List Token → Type 0
HasGiven s ts = ReaderAt s.lossy s.limit (input s) (consumed s) s.open_kinds s.expected ts

-- a value was read, and nothing is open
abbrev pub IsWhole : ParserState → Type 0
IsWhole s = (s.expected ≡ expected.Done) × (length s.open_kinds ≡ 0)

-- what a parser reads stays
pub record SameInput (old new : ParserState) : Type 0 where
  pub text : new.text ≡ old.text
  pub start : new.start ≡ old.start
  pub lossy : new.lossy ≡ old.lossy
  pub limit : new.limit ≡ old.limit

-- an event of one more token, or the end: then the input is a text of the tree of these tokens, within the limit, and nothing is taken
abbrev pub AdvancesTo : ParserState → Event → ParserState → Type 0
AdvancesTo old event.End new = (new ≡ old) × ((ts : List Token) → HasGiven old ts → (t : Tree) × is_text old.lossy t (input old) × (ts ≡ tokens t) × (depth t ≤ old.limit))
AdvancesTo old e new = (ts : List Token) → HasGiven old ts → (x : Token) × Means e x × HasGiven new (ts ++ x ∷ [])

-- what was taken before is followed by a gap and then the event's token, byte for byte, and the
-- parser is right after that: neither whitespace nor a comma or a colon was taken after it
pub record TakesToken (old : ParserState) (e : Event) (new : ParserState) : Type 0 where
  pub forward : old.index < new.index
  pub room : old.index + raw_size e ≤ new.index
  pub within : new.index ≤ length new.text
  pub last : EndsToken (get_or new.text (new.index - 1) 0)
  pub begins : ℕ
  pub order : (old.index ≤ begins) × (begins < new.index)
  pub gap : IsGap (piece new.text old.index begins)
  pub bytes : piece new.text begins new.index ≡ event_bytes e
  pub mode : IsRead old.lossy e

-- so at each event but the end
abbrev pub IsTight : ParserState → Event → ParserState → Type 0
IsTight old event.End new = Unit {0}
IsTight old e new = TakesToken old e new

-- what the event borrows is right before the parser's place: a number, or what is between the
-- quotes of a string or a name, the last of them right before that place
abbrev pub IsLent : Event → ParserState → Type 0
IsLent (event.Number l) s = l.now ≡ piece s.text (s.index - length l.now) s.index
IsLent (event.Str v) s = v.raw.now ≡ piece s.text (s.index - 1 - length v.raw.now) (s.index - 1)
IsLent (event.Key v) s = v.raw.now ≡ piece s.text (s.index - 1 - length v.raw.now) (s.index - 1)
IsLent _ s = Unit {0}

-- the fault of the input, which is kept and returned again
pub record Refuses (old : ParserState) (e : Error) (new : ParserState) : Type 0 where
  pub kept : new ≡ record old { failure = Some e }
  pub fault : FaultFrom old.lossy old.limit old.start old.text e.code e.place
  pub again : IfSome old.failure (λ f. e ≡ f)

-- the fault is reported at the event that needs the byte at its offset, and at no event before that
pub record IsDue (old : ParserState) (e : Error) : Type 0 where
  pub offset : ℕ
  pub place : e.place ≡ place_at old.text (old.start + offset)
  pub fault : IsFault old.lossy old.limit (input old) e.code offset
  pub needs : NextNeeds old.lossy (input old) (consumed old) e.code offset

-- the events so far begin the tokens of each text that begins so; where the last is a number, of each in which it goes no further
abbrev pub EventsBeginTexts : ParserState → Type 0
EventsBeginTexts s = (ts : List Token) → HasGiven s ts → (t : Tree) (b : List ℕ) → is_text s.lossy t (take (consumed s) (input s) ++ b) → LastEnds s.expected ts b → (m : List Token) × (tokens t ≡ ts ++ m)

-- one value was read, whatever follows it, and the parser is right after it: a number is the
-- longest there, and no digit follows a leading zero
abbrev pub HasRead : ParserState → Type 0
HasRead s = (ts : List Token) → HasGiven s ts → (t : Tree) × reads s.lossy (input s) t (consumed s) × (ts ≡ tokens t) × (depth t ≤ s.limit)

-- what is true of each parser, which keeps what is left of the text from the start on
pub record IsSound (rest : List ℕ) (s : ParserState) : Type 0 where
  pub rest_is : rest ≡ input s
  pub given : (ts : List Token) × HasGiven s ts
  pub failed : IfSome s.failure (λ e. FaultFrom s.lossy s.limit s.start s.text e.code e.place)
  pub inside : ¬ (IsWhole s) → IfSome s.failure (λ e. IsInValue e.code)
  pub order : s.start ≤ s.index
  pub within : s.index ≤ length s.text
  pub most : s.limit ≤ 1024

-- if a value was returned and is whole, it was read
abbrev pub ReadsWholeOnSome : {A : Type 0} → ParserState → Option A → Type 0
ReadsWholeOnSome s result = IfSome result (λ _. IsWhole s → HasRead s)

-- a whole value is still one that was read
abbrev pub KeepsHasRead : (old new : ParserState) → Type 0
KeepsHasRead old new = (IsWhole old → HasRead old) → IsWhole new → HasRead new

-- a value that an event made whole was read
abbrev pub ReadsWhenWhole : {A E : Type 0} → (old new : ParserState) → Result A E → Type 0
ReadsWhenWhole old new result = OnOk result (¬ (IsWhole old) → IsWhole new → HasRead new)

-- the event is read, and none was refused
abbrev pub ReadsNextEvent : {E : Type 0} → (old new : ParserState) → Result Event E → Type 0
ReadsNextEvent old new result = IfOk result (λ e. (old.failure ≡ None) × (new.failure ≡ None) × AdvancesTo old e new)

-- the parser is right after the event's token
abbrev pub StopsTight : {E : Type 0} → (old new : ParserState) → Result Event E → Type 0
StopsTight old new result = IfOk result (λ e. IsTight old e new)

-- what an event borrows is right before the parser's place
abbrev pub LendsBefore : {E : Type 0} → ParserState → Result Event E → Type 0
LendsBefore s result = IfOk result (λ e. IsLent e s)

-- End is returned after a whole value only
abbrev pub EndsWhole : {E : Type 0} → ParserState → Result Event E → Type 0
EndsWhole s result = IfOk result (λ e. e ≡ event.End → IsWhole s)

-- an error is the fault of the input, which is kept
abbrev pub RefusesOnErr : {A : Type 0} → (old new : ParserState) → Result A Error → Type 0
RefusesOnErr old new result = IfErr result (λ e. Refuses old e new)

-- a first error is reported at the event that needs the byte
abbrev pub FailsWhenDue : {A : Type 0} → ParserState → Result A Error → Type 0
FailsWhenDue s result = IfErr result (λ e. s.failure ≡ None → IsDue s e)

-- while the value is not whole, an error is one of a value
abbrev pub FailsInValue : {A : Type 0} → ParserState → Result A Error → Type 0
FailsInValue s result = IfErr result (λ e. ¬ (IsWhole s) → IsInValue e.code)
