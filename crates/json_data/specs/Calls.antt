-- What the calls that read a value answer.
use Rattle.std.specs.Prelude.{◌≡◌, ◌⊎◌, ℕ, ◌^◌, ◌<◌, ◌≤◌, List, length, get_or, false, IsUtf8, Result, IfOk, IfErr, IsErrOf, IsOkUnless}
use Rattle.json_grammar.specs.Grammar.{IsWhitespace, ws, is_text}
use Rattle.json_grammar.specs.Given.{piece}
use Rattle.json_grammar.specs.Rules.{Rules, fits}
use Rattle.json_grammar.specs.Tree.{Tree, depth}
use Rattle.json_io.specs.declared.error.ErrorCode.{ErrorCode}
use Rattle.json_io.specs.declared.error.ErrorCode.TheVariants as code
use Rattle.json_io.specs.declared.error.Place.{Place}
use Rattle.json_io.specs.declared.error.Place.TheVariants as place
use Rattle.json_text.specs.Faults.{FaultAt, FaultWithAt}
use Rattle.json_io.specs.Outside.{SourceState}
use Rattle.json_io.specs.Positions.{place_at}
use Rattle.json_io.specs.Transfer.{ReadsWithin, ReadingCause}
use Rattle.json_io.specs.Utf8.{IsUtf8Fault}
use Rattle.json_model.specs.Datum.{Datum}
use Rattle.json_data.specs.Reading.{Reading, gives, refuses}
use Rattle.json_io.specs.declared.error.Error.{Error}
use Rattle.json_io.specs.Errors.{no_memory, too_large}

-- the bytes are a text of a tree of at most that many levels, of which r is the reading
abbrev pub ReadsTypedText : ℕ → (Tree → Reading) → List ℕ → Reading → Type 0
ReadsTypedText limit f b r = (t : Tree) × is_text false t b × (depth t ≤ limit) × (f t ≡ r)

-- the bytes are a text that fits, of whose tree the type has a datum
abbrev pub HasDatum : ℕ → (Tree → Reading) → List ℕ → Type 0
HasDatum limit f b = (d : Datum) × ReadsTypedText limit f b (gives d)

-- the value of the text begins there
abbrev pub ValueBegins : List ℕ → Place → Type 0
ValueBegins b p = (k : ℕ) × ws (piece b 0 k) × (k < length b → ¬ (IsWhitespace (get_or b k 0))) × (p ≡ place_at b k)

-- the tree of the text is refused, at the beginning of its value
abbrev pub TreeRefused : ℕ → (Tree → Reading) → List ℕ → ErrorCode → Place → Type 0
TreeRefused limit f b c p = ReadsTypedText limit f b (refuses c) × ValueBegins b p

-- why no value of at most that many levels is read of bytes: memory ran out, there are more than
-- 4,294,967,295, they are no UTF-8, they are no text, or its tree is refused
abbrev pub TypedReadingFails : ℕ → (Tree → Reading) → List ℕ → ErrorCode → Place → Type 0
TypedReadingFails limit f b code.NoMemory place.None = Unit {0}
TypedReadingFails limit f b code.TooLarge place.None = 2 ^ 32 ≤ length b
TypedReadingFails limit f b code.InvalidUTF8 p = (k : ℕ) × IsUtf8Fault b k × (p ≡ place_at b k)
TypedReadingFails limit f b code.TypeUnmatched p = TreeRefused limit f b code.TypeUnmatched p
TypedReadingFails limit f b code.NumberOutOfRange p = TreeRefused limit f b code.NumberOutOfRange p
TypedReadingFails limit f b code.ExpectedNumericKey p = TreeRefused limit f b code.ExpectedNumericKey p
TypedReadingFails limit f b c p = IsUtf8 b × FaultAt false limit b c p

-- why bytes are not looked at as a text: there are more than 4,294,967,295, or they are no UTF-8
abbrev pub BytesRefused : List ℕ → ErrorCode → Place → Type 0
BytesRefused b code.TooLarge place.None = 2 ^ 32 ≤ length b
BytesRefused b code.InvalidUTF8 p = (k : ℕ) × IsUtf8Fault b k × (p ≡ place_at b k)
BytesRefused b c p = ⊥

-- ---- by rules

-- the bytes are a text of a tree that fits the rules, of which r is the reading
abbrev pub ReadsTextWith : Rules → (Tree → Reading) → List ℕ → Reading → Type 0
ReadsTextWith rules f b r = (t : Tree) × is_text false t b × fits t rules × (f t ≡ r)

abbrev pub TreeRefusedWith : Rules → (Tree → Reading) → List ℕ → ErrorCode → Place → Type 0
TreeRefusedWith rules f b c p = ReadsTextWith rules f b (refuses c) × ValueBegins b p

-- why no value that fits the rules is read of bytes
abbrev pub TypedReadingFailsWith : Rules → (Tree → Reading) → List ℕ → ErrorCode → Place → Type 0
TypedReadingFailsWith rules f b code.NoMemory place.None = Unit {0}
TypedReadingFailsWith rules f b code.TooLarge place.None = 2 ^ 32 ≤ length b
TypedReadingFailsWith rules f b code.InvalidUTF8 p = (k : ℕ) × IsUtf8Fault b k × (p ≡ place_at b k)
TypedReadingFailsWith rules f b code.TypeUnmatched p = TreeRefusedWith rules f b code.TypeUnmatched p
TypedReadingFailsWith rules f b code.NumberOutOfRange p = TreeRefusedWith rules f b code.NumberOutOfRange p
TypedReadingFailsWith rules f b code.ExpectedNumericKey p = TreeRefusedWith rules f b code.ExpectedNumericKey p
TypedReadingFailsWith rules f b c p = IsUtf8 b × FaultWithAt false rules b c p

-- ---- from a source

-- the most bytes that are read
abbrev pub most : ℕ
most = 4294967295

-- all bytes that the source had left are a text of a tree of at most 254 levels, of which r is the reading
abbrev pub ReadsSource : SourceState → SourceState → (Tree → Reading) → Reading → Type 0
ReadsSource old new f r = (b : List ℕ) × ReadsWithin most old new b × ReadsTypedText 254 f b r

-- why no value is read of a source: its bytes were not had, or no value is read of them
abbrev pub SourceFails : SourceState → SourceState → (Tree → Reading) → ErrorCode → Place → Type 0
SourceFails old new f c p = ReadingCause most old new c p ⊎ ((b : List ℕ) × ReadsWithin most old new b × TypedReadingFails 254 f b c p)

-- more bytes than a text may have are refused
abbrev pub RefusesTooLarge : {A : Type 0} → List ℕ → Result A Error → Type 0
RefusesTooLarge b result = 2 ^ 32 ≤ length b → IsErrOf result too_large

-- the value has the datum that is read of the text, of 254 levels at most
abbrev pub ReadsTypedValue : {V E : Type 0} → (Tree → Reading) → (V → Datum) → List ℕ → Result V E → Type 0
ReadsTypedValue f datum b result = IfOk result (λ v. ReadsTypedText 254 f b (gives (datum v)))

-- an error says why no value of 254 levels at most is read
abbrev pub FailsTypedReading : {A : Type 0} → (Tree → Reading) → List ℕ → Result A Error → Type 0
FailsTypedReading f b result = IfErr result (λ e. TypedReadingFails 254 f b e.code e.place)

-- a text of which the type has a datum is read, unless memory runs out
abbrev pub ReadsUnlessNoMemory : {A : Type 0} → (Tree → Reading) → List ℕ → Result A Error → Type 0
ReadsUnlessNoMemory f b result = HasDatum 254 f b → length b < 2 ^ 32 → IsOkUnless result no_memory
