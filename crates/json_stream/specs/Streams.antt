-- What is read of an input that has values one after another.
use Rattle.std.specs.Prelude.{◌≡◌, ◌⊎◌, ℕ, ◌+◌, ◌-◌, ◌<◌, ◌≤◌, List, [], ◌∷◌, ◌++◌, length, drop, Bool, Option, Some, None, IsUtf8}
use Rattle.std.specs.Str.{IsCharBoundary}
use Rattle.json_grammar.specs.declared.Kind.{Kind}
use Rattle.json_grammar.specs.declared.ExpectedPart.TheVariants.{Value as at_value}
use Rattle.json_grammar.specs.Fault.{reads}
use Rattle.json_grammar.specs.Place.{closing}
use Rattle.json_grammar.specs.Tree.{Tree, depth}
use Rattle.json_model.specs.Datum.{Datum}
use Rattle.json_io.specs.declared.error.Error.{Error}
use Rattle.json_io.specs.declared.error.ErrorCode.{ErrorCode}
use Rattle.json_io.specs.declared.error.ErrorCode.TheVariants as code
use Rattle.json_io.specs.declared.error.Place.{Place}
use Rattle.json_io.specs.declared.error.Place.TheVariants as place
use Rattle.json_text.specs.Ends.{ComesNext}
use Rattle.json_text.specs.Faults.{IsValueFault}
use Rattle.json_text.specs.Parsing.{ParserState}
use Rattle.json_io.specs.Positions.{place_at}
use Rattle.json_text.specs.Repaired.{RepairedText, origin_of}
use Rattle.json_scan.specs.Runs.{ByteAt}
use Rattle.json_io.specs.Utf8.{Utf8Cause}
use Rattle.json_data.specs.Reading.{Reading, gives, refuses}

-- what is read, and the offset in it of the next value, in bytes; whether lone surrogates are
-- taken; and, where the text was repaired, the origins of its places
pub record InputState : Type 0 where
  pub text : List ℕ
  pub index : ℕ
  pub lossy : Bool
  pub repaired : Option RepairedText

-- of these parts
abbrev pub input_state : List ℕ → Bool → Option RepairedText → ℕ → InputState
input_state b l o i = record { text = b; index = i; lossy = l; repaired = o }

-- a parser that begins there
abbrev pub parser_at : InputState → ParserState
parser_at s = record { text = s.text; start = s.index; lossy = s.lossy; limit = 254; index = s.index; open_kinds = []; expected = at_value; failure = None }

-- ---- places of the input

-- how many bytes more the repaired text has before k than the input
abbrev pub added : RepairedText → ℕ → ℕ
added r k = k - origin_of r k

-- the origin of a place of the repaired text: the line is the same, and the column is less by the
-- bytes that were added in its line
abbrev pub origin_place : RepairedText → Place → Place
origin_place r (place.At k line column) = place.At (origin_of r k) line (column - (added r k - added r (k - (column - 1))))
origin_place r p = p

-- the place in the input for one in the text that is read
abbrev pub in_input : Option RepairedText → Place → Place
in_input None p = p
in_input (Some r) p = origin_place r p

-- the same of an offset alone
abbrev pub offset_in : Option RepairedText → ℕ → ℕ
offset_in None k = k
offset_in (Some r) k = origin_of r k

-- the place in the input for an offset of the text that is read
abbrev pub reported_place : InputState → ℕ → Place
reported_place s k = in_input s.repaired (place_at s.text k)

-- this holds of an error of the text that is read, and the error has its place in the input
abbrev pub Tells : Option RepairedText → (Error → Type 0) → Error → Type 0
Tells None why e = why e
Tells (Some r) why e = (read : Error) × why read × (e ≡ record read { place = origin_place r read.place })

-- the place lies in the text, or is none of a text
abbrev pub PlaceIsWithin : List ℕ → Place → Type 0
PlaceIsWithin b (place.At k line column) = k ≤ length b
PlaceIsWithin b p = Unit {0}

-- ---- one value

-- the next value was taken, whatever follows it, and r is the reading of its tree
pub record TakesNextValue (f : Tree → Reading) (old : InputState) (r : Reading) (new : InputState) : Type 0 where
  pub utf8 : IsUtf8 old.text
  pub tree : Tree
  pub size : ℕ
  pub value : reads old.lossy (drop old.index old.text) tree size
  pub levels : depth tree ≤ 254
  pub answer : f tree ≡ r
  pub after : new ≡ record old { index = old.index + size }
  pub forward : old.index < new.index
  pub within : new.index ≤ length new.text

-- the next value was taken, and its tree is refused at its first byte
pub record RefusesNextValue (f : Tree → Reading) (old : InputState) (c : ErrorCode) (p : Place) (new : InputState) : Type 0 where
  pub takes : TakesNextValue f old (refuses c) new
  pub begins : ℕ
  pub next : ComesNext (parser_at old) begins
  pub place : p ≡ reported_place old begins

-- what is left has this fault as a value
abbrev pub FaultIsLeft : InputState → ErrorCode → Place → Type 0
FaultIsLeft s c p = (k : ℕ) × (p ≡ reported_place s (s.index + k)) × IsValueFault s.lossy 254 (drop s.index s.text) c k

-- why no value is returned, and the state then: memory ran out, the whole input is no UTF-8, what
-- is left has a fault as a value, or the tree of the value is refused
abbrev pub NextValueFails : (Tree → Reading) → InputState → ErrorCode → Place → InputState → Type 0
NextValueFails f old code.NoMemory place.None new = new ≡ old
NextValueFails f old code.InvalidUTF8 p new = Utf8Cause old.text code.InvalidUTF8 p × (new ≡ old)
NextValueFails f old code.TypeUnmatched p new = RefusesNextValue f old code.TypeUnmatched p new
NextValueFails f old code.NumberOutOfRange p new = RefusesNextValue f old code.NumberOutOfRange p new
NextValueFails f old code.ExpectedNumericKey p new = RefusesNextValue f old code.ExpectedNumericKey p new
NextValueFails f old c p new = IsUtf8 old.text × FaultIsLeft old c p × (new ≡ old)

-- the error is that the text ended before a value; or memory ran out
abbrev pub TellsEnd : InputState → ErrorCode → Place → Type 0
TellsEnd s code.NoMemory place.None = Unit {0}
TellsEnd s code.EofWhileParsing p = p ≡ reported_place s (length s.text)
TellsEnd s c p = ⊥

-- ---- ends

-- the closing bracket was next, and the reader is right after it
pub record PassesEnd (old : InputState) (k : Kind) (new : InputState) : Type 0 where
  pub utf8 : IsUtf8 old.text
  pub at : ℕ
  pub next : ComesNext (parser_at old) at
  pub closes : ByteAt old.text at (closing k)
  pub after : new ≡ record old { index = at + 1 }

-- why an end is refused: the whole input is no UTF-8, or this
abbrev pub EndFails : InputState → (Error → Type 0) → Error → Type 0
EndFails s why e = Utf8Cause s.text e.code e.place ⊎ (IsUtf8 s.text × Tells s.repaired why e)

-- what is read, as a text or with the reason why it is none, and a character begins at the place
pub record IsTextAt (bytes : List ℕ) (index : ℕ) (text : List ℕ) : Type 0 where
  pub same : text ≡ bytes
  pub utf8 : IsUtf8 bytes
  pub boundary : IsCharBoundary bytes index

-- ---- values one after another

-- the values of an input from here on, up to a refusal; and whether one came
pub record StreamState : Type 0 where
  pub input : InputState
  pub ended : Bool

-- values were taken one after another, whose readings gave these data
pub data TakesValues : (Tree → Reading) → InputState → List Datum → InputState → Type 0 where
  none : {f : Tree → Reading} {s : InputState} → TakesValues f s [] s
  more : {f : Tree → Reading} {old s new : InputState} {ds : List Datum} {d : Datum} → TakesValues f old ds s → TakesNextValue f s (gives d) new → TakesValues f old (ds ++ d ∷ []) new
