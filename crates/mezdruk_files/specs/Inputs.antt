-- The lines of an input that is read bit by bit.
use Rattle.std.specs.Prelude.{◌≡◌, ◌⊎◌, ℕ, ◌<◌, ◌==◌, Bool, true, false, List, [], ◌∷◌, ◌++◌, length, None, Some}
use Rattle.std.specs.List.{list_any}
use Rattle.std.specs.declared.option.Option.{Option}
use Rattle.json_io.specs.FaultText.{text_of}
use Rattle.json_io.specs.Known.{Appends, Consumes, Keeps, if_known}
use Rattle.json_io.specs.Outside.{SinkState, SourceState, Rose}
use Rattle.json_io.specs.declared.error.Error.{Error}
use Rattle.json_io.specs.declared.error.ErrorCode.{ErrorCode}
use Rattle.json_io.specs.declared.error.ErrorCode.TheVariants.{NoMemory, Io, TooLarge}
use Rattle.json_io.specs.declared.error.Place.{Place}
use Rattle.json_io.specs.declared.error.Place.TheVariants.{None as nowhere, Reading}
use Rattle.json_command.specs.Input.{max_bytes}
use Rattle.json_command.specs.Reporting.{Reports}
use Rattle.json_command.specs.Statuses.{status_of}
use Rattle.mezdruk_files.specs.declared.document_error.DocumentError.TheVariants.{Input}
use Rattle.mezdruk_files.specs.declared.run.DocumentTally.{DocumentTally}
use Rattle.mezdruk_files.specs.Outcomes.{Task, PartOutcome, Refused, LineOutcome, PartsHave, output_of, reports_of, greatest_status}
use Rattle.mezdruk_files.specs.Parts.{whole_part, line_parts, lines_of}
use Rattle.mezdruk_files.specs.Reports.{IsReport}
use Rattle.mezdruk_files.specs.Running.{Handles, StopsRunning}
use Rattle.mezdruk_files.specs.Writing.{WritingFails}

-- ---- reading

-- the last byte is a newline, or there is none
abbrev pub AreWholeLines : List ℕ → Type 0
AreWholeLines b = (b ≡ []) ⊎ ((before : List ℕ) × (b ≡ before ++ 10 ∷ []))

-- some byte is a newline
abbrev pub has_newline : List ℕ → Bool
has_newline b = list_any (λ x. x == 10) b

-- a read of n bytes, which were appended to those that were held
pub record ReadsMore (old new : SourceState) (held held' : List ℕ) (n : ℕ) : Type 0 where
  pub bytes : List ℕ
  pub size : length bytes ≡ n
  pub appended : held' ≡ held ++ bytes
  pub consumed : Consumes old.left new.left bytes
  pub no_fault : new.faults ≡ old.faults
  pub ends : n ≡ 0 → new.left ≡ if_known old.left []

-- the source failed, or memory ran out for bytes that it gave
abbrev pub ReadingStops : SourceState → SourceState → ErrorCode → Place → Type 0
ReadingStops old new NoMemory nowhere = (lost : List ℕ) × Consumes old.left new.left lost
ReadingStops old new Io Reading = Keeps old.left new.left × Rose old.faults new.faults
ReadingStops old new code place = ⊥

-- ---- how an input ends

-- the error that ends it: the source failed, or gave more bytes than 4,294,967,295
abbrev pub InputFails : SourceState → SourceState → List ℕ → ErrorCode → Place → Type 0
InputFails old new b Io Reading = Rose old.faults new.faults
InputFails old new b TooLarge nowhere = max_bytes < length b
InputFails old new b code place = ⊥

-- all its bytes were read, or an error ended it
abbrev pub InputEnds : SourceState → SourceState → List ℕ → Option Error → Type 0
InputEnds old new b None = (new.left ≡ if_known old.left []) × (new.faults ≡ old.faults)
InputEnds old new b (Some e) = InputFails old new b e.code e.place

-- an error ended the input: the outcomes are those of the lines that ended before it, and the error
pub record EndedLines (task : Task) (name b : List ℕ) (error : Error) (outcomes : List PartOutcome) : Type 0 where
  pub before : List ℕ
  pub rest : List ℕ
  pub parted : b ≡ before ++ rest
  pub whole : AreWholeLines before
  pub unended : has_newline rest ≡ false
  pub first : List PartOutcome
  pub have : PartsHave true (LineOutcome task) (line_parts name 0 (lines_of before)) first
  pub report : List ℕ
  pub is_report : IsReport (whole_part name []) (Input error) report
  pub outcomes_are : outcomes ≡ first ++ Refused (Input error) report ∷ []

-- the outcomes of the lines of an input that ended so
abbrev pub LinesHave : Task → List ℕ → List ℕ → Option Error → List PartOutcome → Type 0
LinesHave task name b None outcomes = PartsHave true (LineOutcome task) (line_parts name 0 (lines_of b)) outcomes
LinesHave task name b (Some error) outcomes = EndedLines task name b error outcomes

-- the outcomes of the first lines
abbrev pub FirstLinesHave : Task → List ℕ → List ℕ → List PartOutcome → Type 0
FirstLinesHave task name b outcomes = PartsHave false (LineOutcome task) (line_parts name 0 (lines_of b)) outcomes

-- ---- what is done with an input

-- the source gave these bytes and ended so; each line was written, and each report made
pub record HandlesInput (task : Task) (name : List ℕ) (source source' : SourceState) (old new : DocumentTally) (sink sink' errs errs' : SinkState) : Type 0 where
  pub bytes : List ℕ
  pub consumed : Consumes source.left source'.left bytes
  pub end : Option Error
  pub ends : InputEnds source source' bytes end
  pub handled : Handles (LinesHave task name bytes end) old new sink sink' errs errs'

-- the source gave these bytes, and the run stopped at one of their lines
pub record StopsInput (task : Task) (name : List ℕ) (source source' : SourceState) (old new : DocumentTally) (sink sink' errs errs' : SinkState) (error : Error) : Type 0 where
  pub bytes : List ℕ
  pub consumed : Consumes source.left source'.left bytes
  pub stopped : StopsRunning (FirstLinesHave task name bytes) old new sink sink' errs errs' error

-- ---- of the top call

-- status 0 to 4: the source gave these bytes and ended so; the output is the lines of the changed trees, in order; each
-- error was reported, or a prefix of the reports if that sink failed or memory ran out; the status is the greatest
pub record PrintsInput (task : Task) (name : List ℕ) (source source' : SourceState) (sink sink' errs errs' : SinkState) (status : ℕ) : Type 0 where
  pub bytes : List ℕ
  pub consumed : Consumes source.left source'.left bytes
  pub end : Option Error
  pub ends : InputEnds source source' bytes end
  pub outcomes : List PartOutcome
  pub have : LinesHave task name bytes end outcomes
  pub output : Appends sink.gained sink'.gained (output_of outcomes)
  pub flushed : sink.unflushed ≡ false → sink'.unflushed ≡ false
  pub reports : Reports (reports_of outcomes) errs errs'
  pub status_is : status ≡ greatest_status outcomes

-- status 5 or 6: writing failed or memory ran out; the output is a prefix of that of the first lines of the bytes that
-- the source gave, whose errors were reported, and then the error of the run
pub record PrintsPartOfInput (task : Task) (name : List ℕ) (source source' : SourceState) (sink sink' errs errs' : SinkState) (status : ℕ) : Type 0 where
  pub error : Error
  pub status_is : status ≡ status_of error.code error.place
  pub bytes : List ℕ
  pub consumed : Consumes source.left source'.left bytes
  pub outcomes : List PartOutcome
  pub have : FirstLinesHave task name bytes outcomes
  pub output : WritingFails sink sink' (output_of outcomes) error.code error.place
  pub reports : Reports (reports_of outcomes ++ text_of error) errs errs'
