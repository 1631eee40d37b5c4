-- What a run over documents does, for each status.
use Rattle.std.specs.Prelude.{◌≡◌, ◌⊎◌, ℕ, max, Bool, true, false, List, [], ◌++◌, Result, Ok, Err, Some, None}
use Rattle.std.specs.declared.option.Option.{Option}
use Rattle.json_grammar.specs.Rules.{Rules}
use Rattle.json_grammar.specs.Tree.{Tree}
use Rattle.json_io.specs.declared.error.Error.{Error}
use Rattle.json_io.specs.declared.error.ErrorCode.{ErrorCode}
use Rattle.json_io.specs.declared.error.ErrorCode.TheVariants.{NoMemory}
use Rattle.json_io.specs.declared.error.Place.{Place}
use Rattle.json_io.specs.declared.error.Place.TheVariants.{None as nowhere}
use Rattle.json_io.specs.Errors.{no_memory}
use Rattle.json_io.specs.FaultText.{text_of}
use Rattle.json_io.specs.Known.{Appends}
use Rattle.json_io.specs.Outside.{SinkState}
use Rattle.json_command.specs.Input.{IsInput, InputFault}
use Rattle.json_command.specs.Reporting.{Reports, ReportsUnlessMuted}
use Rattle.json_command.specs.Statuses.{status_of}
use Rattle.json_value.specs.Denotes.{tree_of}
use Rattle.json_value.specs.declared.value.Value.{Value}
use Rattle.mezdruk_files.specs.declared.change_error.ChangeError.{ChangeError}
use Rattle.mezdruk_files.specs.declared.document.NamedDocument.{NamedDocument}
use Rattle.mezdruk_files.specs.declared.document_error.DocumentError.{DocumentError}
use Rattle.mezdruk_files.specs.declared.document_error.DocumentError.TheVariants.{Input, Change}
use Rattle.mezdruk_files.specs.declared.run.DocumentTally.{DocumentTally}
use Rattle.mezdruk_files.specs.Documents.{DocumentsHave}
use Rattle.mezdruk_files.specs.Outcomes.{Task, PartOutcome, PartsHave, output_of, reports_of, document_error_status, greatest_status}
use Rattle.mezdruk_files.specs.Parts.{DocumentPart}
use Rattle.mezdruk_files.specs.Reports.{IsReport}
use Rattle.mezdruk_files.specs.Writing.{WritesOutput, WritingFails}

-- ---- of one tree, or of bytes

-- memory ran out, or the bytes have this fault
abbrev pub ReadingDocumentFails : Rules → List ℕ → ErrorCode → Place → Type 0
ReadingDocumentFails rules b NoMemory nowhere = Unit {0}
ReadingDocumentFails rules b code place = InputFault rules b code place

-- the value has the changed tree, or the error is that of the change
abbrev pub IsMade : Result Tree ChangeError → Result Value ChangeError → Type 0
IsMade made (Ok value) = made ≡ Ok (tree_of value)
IsMade made (Err error) = made ≡ Err error

-- the line of the changed tree was written, or the error of the change is returned and nothing written
abbrev pub PrintsTree : Task → Tree → SinkState → SinkState → Option ChangeError → Type 0
PrintsTree task tree old new None = (changed : Tree) × (task.changed tree ≡ Ok changed) × WritesOutput old new (task.line changed) (Ok tt)
PrintsTree task tree old new (Some error) = (task.changed tree ≡ Err error) × (new ≡ old)

-- memory ran out and nothing was written, or the line of the changed tree was not written
abbrev pub PrintingStops : Task → Tree → SinkState → SinkState → Error → Type 0
PrintingStops task tree old new error =
    ((error ≡ no_memory) × (new ≡ old)) ⊎ ((changed : Tree) × (task.changed tree ≡ Ok changed) × WritesOutput old new (task.line changed) (Err error))

-- the line of the changed tree of the bytes was written, or their error is returned and nothing written
abbrev pub PrintsBytes : Task → List ℕ → SinkState → SinkState → Option DocumentError → Type 0
PrintsBytes task b old new None = (tree : Tree) × IsInput task.rules b tree × PrintsTree task tree old new None
PrintsBytes task b old new (Some (Change error)) = (tree : Tree) × IsInput task.rules b tree × PrintsTree task tree old new (Some error)
PrintsBytes task b old new (Some (Input error)) = InputFault task.rules b error.code error.place × (new ≡ old)

abbrev pub BytesStop : Task → List ℕ → SinkState → SinkState → Error → Type 0
BytesStop task b old new error = ((error ≡ no_memory) × (new ≡ old)) ⊎ ((tree : Tree) × IsInput task.rules b tree × PrintingStops task tree old new error)

-- ---- of parts of documents

-- the report of the error was made
pub record ReportsError (part : DocumentPart) (error : DocumentError) (old new : DocumentTally) (errs errs' : SinkState) : Type 0 where
  pub report : List ℕ
  pub is_report : IsReport part error report
  pub reported : ReportsUnlessMuted old.muted new.muted errs errs' report
  pub status : new.status ≡ max old.status (document_error_status error)

-- memory ran out for it, and nothing was done
pub record ReportingFails (old new : DocumentTally) (errs errs' : SinkState) (error : Error) : Type 0 where
  pub only : error ≡ no_memory
  pub kept : new ≡ old
  pub silent : errs' ≡ errs

-- each line was written, each report made, and the status is the greatest
pub record Handles (Has : List PartOutcome → Type 0) (old new : DocumentTally) (sink sink' errs errs' : SinkState) : Type 0 where
  pub outcomes : List PartOutcome
  pub have : Has outcomes
  pub output : WritesOutput sink sink' (output_of outcomes) (Ok tt)
  pub reports : ReportsUnlessMuted old.muted new.muted errs errs' (reports_of outcomes)
  pub status : new.status ≡ max old.status (greatest_status outcomes)

-- the lines were written but for the last ones, and the reports made
pub record StopsRunning (Has : List PartOutcome → Type 0) (old new : DocumentTally) (sink sink' errs errs' : SinkState) (error : Error) : Type 0 where
  pub outcomes : List PartOutcome
  pub have : Has outcomes
  pub output : WritingFails sink sink' (output_of outcomes) error.code error.place
  pub reports : ReportsUnlessMuted old.muted new.muted errs errs' (reports_of outcomes)

-- so of these parts, one after another
abbrev pub HandlesParts : (DocumentPart → PartOutcome → Type 0) → List DocumentPart → DocumentTally → DocumentTally → SinkState → SinkState → SinkState → SinkState → Type 0
HandlesParts Has parts old new sink sink' errs errs' = Handles (PartsHave true Has parts) old new sink sink' errs errs'

-- ... but for the last ones
abbrev pub StopsAmongParts : (DocumentPart → PartOutcome → Type 0) → List DocumentPart → DocumentTally → DocumentTally → SinkState → SinkState → SinkState → SinkState → Error → Type 0
StopsAmongParts Has parts old new sink sink' errs errs' error = StopsRunning (PartsHave false Has parts) old new sink sink' errs errs' error

-- ---- of the top call

-- status 0 to 4: the output is the lines of the changed trees, in order; each error was reported, or a prefix of the
-- reports if that sink failed or memory ran out; the status is the greatest
pub record PrintsAll (task : Task) (documents : List NamedDocument) (sink sink' errs errs' : SinkState) (status : ℕ) : Type 0 where
  pub outcomes : List PartOutcome
  pub have : DocumentsHave true task documents outcomes
  pub output : Appends sink.gained sink'.gained (output_of outcomes)
  pub flushed : sink.unflushed ≡ false → sink'.unflushed ≡ false
  pub reports : Reports (reports_of outcomes) errs errs'
  pub status_is : status ≡ greatest_status outcomes

-- status 5 or 6: writing failed or memory ran out; the output is a prefix of that of the first parts of the documents,
-- whose errors were reported, and then the error of the run
pub record PrintsSome (task : Task) (documents : List NamedDocument) (sink sink' errs errs' : SinkState) (status : ℕ) : Type 0 where
  pub error : Error
  pub status_is : status ≡ status_of error.code error.place
  pub outcomes : List PartOutcome
  pub have : DocumentsHave false task documents outcomes
  pub output : WritingFails sink sink' (output_of outcomes) error.code error.place
  pub reports : Reports (reports_of outcomes ++ text_of error) errs errs'
