-- Why no document is made of a text, and what its reader keeps.
use Rattle.std.specs.Prelude.{◌≡◌, ◌⊎◌, ℕ, ◌+◌, ◌-◌, ◌<◌, ◌≤◌, List, length, false, true, Result, IfErr}
use Rattle.json_grammar.specs.Tree.{Token, key_token}
use Rattle.json_grammar.specs.Grammar.{chars, number}
use Rattle.json_grammar.specs.Sizes.{nodes_of}
use Rattle.json_grammar.specs.Repeated.{Keys, RepeatsAt}
use Rattle.json_grammar.specs.Rules.{Rules}
use Rattle.json_io.specs.declared.error.Error.{Error}
use Rattle.json_io.specs.declared.error.ErrorCode.{ErrorCode}
use Rattle.json_io.specs.declared.error.ErrorCode.TheVariants as code
use Rattle.json_io.specs.declared.error.Place.{Place}
use Rattle.json_io.specs.declared.error.Place.TheVariants as place
use Rattle.json_text.specs.declared.event.Event.{Event}
use Rattle.json_text.specs.declared.event.Event.TheVariants as event
use Rattle.json_text.specs.Faults.{FaultAt, FaultWithAt, ValueFaultFrom}
use Rattle.json_text.specs.Parsing.{ParserState}
use Rattle.json_io.specs.Positions.{place_at}
use Rattle.json_io.specs.Errors.{no_memory}
use Rattle.json_text.specs.declared.span.Span.{Span}
use Rattle.json_doc.specs.OpenNames.{HasNames}
use Rattle.json_doc.specs.declared.open_keys.OpenKeys.{OpenKeys}
use Rattle.json_doc.specs.Recorded.{visitor_state, Holds}
use Rattle.json_doc.specs.declared.document_visitor.DocumentVisitor.{DocumentVisitor}

-- memory ran out, or the text has this fault by the rules
abbrev pub ReadingFailsWith : Rules → List ℕ → ErrorCode → Place → Type 0
ReadingFailsWith rules text code.NoMemory place.None = Unit {0}
ReadingFailsWith rules text c p = FaultWithAt false rules text c p

-- memory ran out, or the event is a name that its object has already, reported at its opening
-- quotation mark
abbrev pub RefusesName : OpenKeys → Event → List ℕ → ℕ → Error → Type 0
RefusesName o e text end error =
    (error ≡ no_memory)
    ⊎ ((v : Span) × (e ≡ event.Key v) × ((s : List ℕ) (all : List Keys) → chars v.lossy s v.raw.now → HasNames o all → RepeatsAt all (key_token s))
    × (error ≡ record { code = code.DuplicateKey; place = place_at text (end - (length v.raw.now + 2)) }))

-- memory ran out, or the text has this fault
abbrev pub ReadingFails : List ℕ → ErrorCode → Place → Type 0
ReadingFails text code.NoMemory place.None = Unit {0}
ReadingFails text c p = FaultAt false 254 text c p

-- memory ran out, or what the parser reads has this fault as a value, in its mode
abbrev pub FrontFails : ParserState → ErrorCode → Place → Type 0
FrontFails s code.NoMemory place.None = Unit {0}
FrontFails s c p = ValueFaultFrom s.lossy s.limit s.start s.text c p

-- where it is of a number, its literal is a number
abbrev pub EventIsNumber : Event → Type 0
EventIsNumber (event.Number l) = number l.now
EventIsNumber _ = Unit {0}

-- n more bytes are within its room, and it has met no error
abbrev pub HasRoomFor : DocumentVisitor → ℕ → Type 0
HasRoomFor v m = (visitor_state v).full ≡ false → (visitor_state v).bytes + m ≤ (visitor_state v).text_room

-- the builder was given the tokens ts: it holds them, or they have more nodes than there is room for
pub record Follows (v : DocumentVisitor) (ts : List Token) : Type 0 where
  pub held : (visitor_state v).full ≡ false → Holds v ts
  pub over : (visitor_state v).full ≡ true → (visitor_state v).cell_room < nodes_of ts

-- an error is want of memory, or the text's fault by the rules
abbrev pub FailsByRules : {A : Type 0} → Rules → List ℕ → Result A Error → Type 0
FailsByRules rules text result = IfErr result (λ e. ReadingFailsWith rules text e.code e.place)
