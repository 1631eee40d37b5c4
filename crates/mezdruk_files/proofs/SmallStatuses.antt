-- The statuses of documents are below those of a run that stops.
use Rattle.std.proofs.Common.{◌≡◌, ◌⊎◌, inl, inr, ℕ, ◌+◌, ◌<◌, Bool, true, false, List, [], ◌∷◌, ◌++◌, Some, None, Option, Err, Result, refl, subst, sym, ap, ◌∙◌, arith, lit<}
use Rattle.std.specs.Prelude.{max, string_bytes}
use Rattle.json_grammar.specs.Rules.{Rules}
use Rattle.json_grammar.specs.Tree.{Tree}
use Rattle.json_io.specs.Outside.{SinkState}
use Rattle.json_io.specs.Errors.{writing_failed, reading_failed}
use Rattle.json_io.specs.declared.error.Error.{Error}
use Rattle.json_io.specs.declared.error.ErrorCode.{ErrorCode}
use Rattle.json_io.specs.declared.error.ErrorCode.TheVariants.{NoMemory, Io, BadWords, NotFound, TypeUnmatched}
use Rattle.json_io.specs.declared.error.Place.{Place}
use Rattle.json_io.specs.declared.error.Place.TheVariants.{None as nowhere, Reading, Writing}
use Rattle.json_command.specs.Input.{InputFault}
use Rattle.json_command.specs.Statuses.{status_of}
use Rattle.json_command.proofs.Inputs.{no_want, no_io, no_words}
use Rattle.mezdruk_files.specs.declared.document.NamedDocument.{NamedDocument}
use Rattle.mezdruk_files.specs.declared.document_error.DocumentError.TheVariants.{Input, Change}
use Rattle.mezdruk_files.specs.declared.job.InputForm.{InputForm}
use Rattle.mezdruk_files.specs.declared.job.InputForm.TheVariants.{One, Lines, Stream}
use Rattle.mezdruk_files.specs.Documents.{BytesHave, DocumentsHave, document_bytes}
use Rattle.mezdruk_files.specs.Outcomes.{Task, PartOutcome, Printed, Refused, HasPartOutcome, LineOutcome, IsUnread, TreeOutcome, PartsHave, outcome_status, greatest_status}
use Rattle.mezdruk_files.specs.Parts.{DocumentPart, whole_part, value_part, line_parts, lines_of}
use Rattle.mezdruk_files.specs.Streams.{StreamHas, ends, stops, fails, more, OutcomeIsNoText, TextFault}
use Rattle.mezdruk_files.specs.Writing.{WritingFails}
use Rattle.json_text.specs.Faults.{ValueFaultFrom}
use Rattle.mezdruk_files.proofs.Totals.{greatest_status-append}

fault_small : (rules : Rules) (b : List ℕ) (code : ErrorCode) (place : Place) → InputFault rules b code place → status_of code place < 5
fault_small rules b NoMemory place h = absurd (no_want rules b place h)
fault_small rules b Io place h = absurd (no_io rules b place h)
fault_small rules b BadWords place h = absurd (no_words rules b place h)
fault_small rules b NotFound place h = lit< tt
fault_small rules b TypeUnmatched place h = lit< tt
fault_small rules b code place h = lit< tt

-- ---- of one outcome

outcome_small : (task : Task) (part : DocumentPart) (o : PartOutcome) → HasPartOutcome task part o → outcome_status o < 5
outcome_small task part (Printed line) h = lit< tt
outcome_small task part (Refused (Change e) report) h = lit< tt
outcome_small task part (Refused (Input e) report) h = fault_small task.rules part.bytes e.code e.place h.0

pub line_small : (task : Task) (part : DocumentPart) (o : PartOutcome) → LineOutcome task part o → outcome_status o < 5
line_small task part o (inl blank) = subst (λ x. outcome_status x < 5) (sym blank.1) (lit< tt)
line_small task part o (inr full) = outcome_small task part o full.1

unread_small : (part : DocumentPart) (o : PartOutcome) → IsUnread part o → outcome_status o < 5
unread_small part (Refused (Input e) report) h = subst (λ (x : Error). status_of x.code x.place < 5) (sym h.0) (lit< tt)
unread_small part (Refused (Change e) report) h = absurd h
unread_small part (Printed line) h = absurd h

-- ---- of all

pub max_small : (m n : ℕ) → m < 5 → n < 5 → max m n < 5
max_small m n l k = grind arith

pub parts_small : (whole : Bool) (Has : DocumentPart → PartOutcome → Type 0) (parts : List DocumentPart) (os : List PartOutcome) → ((part : DocumentPart) (o : PartOutcome) → Has part o → outcome_status o < 5) → PartsHave whole Has parts os → greatest_status os < 5
parts_small whole Has [] [] each h = lit< tt
parts_small whole Has (p ∷ ps) [] each h = lit< tt
parts_small whole Has [] (o ∷ os) each h = absurd h
parts_small whole Has (p ∷ ps) (o ∷ os) each h = max_small (outcome_status o) (greatest_status os) (each p o h.0) (parts_small whole Has ps os each h.1)

value_fault_small : (i : ℕ) (b : List ℕ) (code : ErrorCode) (place : Place) → ValueFaultFrom false 254 i b code place → status_of code place < 5
value_fault_small i b NoMemory place h = absurd h.2
value_fault_small i b Io place h = absurd h.2
value_fault_small i b BadWords place h = absurd h.2
value_fault_small i b NotFound place h = absurd h.2
value_fault_small i b TypeUnmatched place h = absurd h.2
value_fault_small i b code place h = lit< tt

tree_small : (task : Task) (part : DocumentPart) (tree : Tree) (o : PartOutcome) → TreeOutcome task part tree o → outcome_status o < 5
tree_small task part tree (Printed line) h = lit< tt
tree_small task part tree (Refused (Change e) report) h = lit< tt
tree_small task part tree (Refused (Input e) report) h = absurd h

stream_small : (task : Task) (name b : List ℕ) (whole : Bool) (i n : ℕ) (os : List PartOutcome) → StreamHas task name b whole i n os → greatest_status os < 5
stream_small task name b whole i n os (ends space) = lit< tt
stream_small task name b whole i n os (stops first) = lit< tt
stream_small task name b whole i n os (fails e report some fault is) = max_small (status_of e.code e.place) 0 (value_fault_small i b e.code e.place fault) (lit< tt)
stream_small task name b whole i n os (more j tree o later reads outcome rest) =
    max_small (outcome_status o) (greatest_status later) (tree_small task (value_part name b n) tree o outcome) (stream_small task name b whole j (n + 1) later rest)

text_fault_small : (b : List ℕ) (code : ErrorCode) (place : Place) → TextFault b code place → status_of code place < 5
text_fault_small b NoMemory place h = absurd h
text_fault_small b Io place h = absurd h
text_fault_small b BadWords place h = absurd h
text_fault_small b NotFound place h = absurd h
text_fault_small b TypeUnmatched place h = absurd h
text_fault_small b code place h = lit< tt

no_text_small : (part : DocumentPart) (o : PartOutcome) → OutcomeIsNoText part o → outcome_status o < 5
no_text_small part (Refused (Input e) report) h = text_fault_small part.bytes e.code e.place h.0
no_text_small part (Refused (Change e) report) h = absurd h
no_text_small part (Printed line) h = absurd h

bytes_small : (whole : Bool) (task : Task) (name : List ℕ) (b : Option (List ℕ)) (form : InputForm) (os : List PartOutcome) → BytesHave whole task name b form os → greatest_status os < 5
bytes_small whole task name None form os h = parts_small whole IsUnread (whole_part name [] ∷ []) os unread_small h
bytes_small whole task name (Some b) One os h = parts_small whole (HasPartOutcome task) (whole_part name b ∷ []) os (outcome_small task) h
bytes_small whole task name (Some b) Lines os h = parts_small whole (LineOutcome task) (line_parts name 0 (lines_of b)) os (line_small task) h
bytes_small whole task name (Some b) Stream os (inl h) = stream_small task name b whole 0 0 os h.2
bytes_small whole task name (Some b) Stream os (inr h) = parts_small whole OutcomeIsNoText (whole_part name b ∷ []) os no_text_small h

pub greatest_small : (task : Task) (ds : List NamedDocument) (os : List PartOutcome) → DocumentsHave true task ds os → greatest_status os < 5
greatest_small task [] os h = subst (λ xs. greatest_status xs < 5) (sym h) (lit< tt)
greatest_small task (d ∷ ds) os h =
    subst (λ n. n < 5) (sym (ap greatest_status h.4 ∙ greatest_status-append h.0 h.1))
    (max_small (greatest_status h.0) (greatest_status h.1) (bytes_small true task (string_bytes d.name) (document_bytes d) task.form h.0 h.2) (greatest_small task ds h.1 h.3))

-- a run that stops has status 5 or 6
pub stops_high : (old new : SinkState) (text : List ℕ) (code : ErrorCode) (place : Place) → WritingFails old new text code place → (status_of code place ≡ 5) ⊎ (status_of code place ≡ 6)
stops_high old new text NoMemory nowhere h = inr refl
stops_high old new text Io Writing h = inl refl
stops_high old new text code place h = absurd h

-- a write that failed has status 5
pub reported_status : (e : Error) → ◌≡◌ {A = Result (Unit {0}) Error} (Err e) (Err writing_failed) → status_of e.code e.place ≡ 5
reported_status e h = let same : e ≡ writing_failed = cc in rw same refl
