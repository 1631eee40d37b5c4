-- What a run over lines does, for each status.
use Rattle.std.specs.Prelude.{◌≡◌, ◌⊎◌, ℕ, ◌<◌, ◌≤◌, true, false, List, [], ◌++◌, length, Option, Some, IfSome, if◌then◌else◌}
use Rattle.json_io.specs.Errors.{bad_words, no_memory}
use Rattle.json_io.specs.FaultText.{text_of}
use Rattle.json_io.specs.Known.{Appends, if_known}
use Rattle.json_io.specs.Outside.{Rose}
use Rattle.json_io.specs.Transfer.{AppendsFront}
use Rattle.json_io.specs.declared.error.Error.{Error}
use Rattle.json_lines.specs.Cells.{LinesCommand}
use Rattle.json_lines.specs.Lines.{lines}
use Rattle.json_lines.specs.Reading.{GivesBytes}
use Rattle.json_lines.specs.Outcomes.{HaveOutcomes, handled, table_text}
use Rattle.json_command.specs.Input.{max_bytes}
use Rattle.json_command.specs.Reporting.{Reports}
use Rattle.json_lines.specs.Rows.{Outcome, errors_from, some_bad}
use Rattle.json_lines.specs.TopCall.{Streams, RunErrorCause, run_status}
use Rattle.json_lines.specs.Words.{AsksForColumns, IsLinesRequest}

-- the words ask for a command, and where the bytes of the source are known, this holds of the
-- outcomes of their lines
pub record OfOutcomes (arguments : List (List ℕ)) (known : Option (List ℕ)) (holds : LinesCommand → List Outcome → Type 0) : Type 0 where
  pub command : LinesCommand
  pub asked : AsksForColumns arguments command
  pub so : IfSome known (λ bytes. (outcomes : List Outcome) × HaveOutcomes command (lines bytes) outcomes × holds command outcomes)

-- ---- status 0 or 1: the run is complete

-- what the source gave is within the limit, no call of source or sink failed, and the sink was
-- flushed
pub record ReadsWell (old new : Streams) : Type 0 where
  pub bytes : List ℕ
  pub gives : GivesBytes old.source new.source bytes
  pub few : length bytes ≤ max_bytes
  pub read : new.source.faults ≡ old.source.faults
  pub written : new.sink.faults ≡ old.sink.faults
  pub flushed : new.sink.unflushed ≡ false

-- the same, and the source was read to its end
pub record ReadsAll (old new : Streams) : Type 0 where
  pub well : ReadsWell old new
  pub drained : new.source.left ≡ if_known old.source.left []

-- the words ask that the first bad line ends the run
abbrev pub AsksForStrict : List (List ℕ) → Type 0
AsksForStrict arguments = (command : LinesCommand) × AsksForColumns arguments command × (command.strict ≡ true)

-- the same, and a bad line ended the run, as the words ask
pub record StopsAtBad (arguments : List (List ℕ)) (old new : Streams) (status : ℕ) : Type 0 where
  pub strict : AsksForStrict arguments
  pub well : ReadsWell old new
  pub bad : status ≡ 1

-- the sink gained exactly the header and the rows of all lines that are handled
abbrev pub AppendsRows : List (List ℕ) → Streams → Streams → Type 0
AppendsRows arguments old new = OfOutcomes arguments old.source.left (λ command outcomes. Appends old.sink.gained new.sink.gained (table_text command outcomes))

-- the error of each bad line that is handled was reported with its number, or a prefix of these
-- errors where that sink failed or memory ran out
abbrev pub TellsErrors : List (List ℕ) → Streams → Streams → Type 0
TellsErrors arguments old new = OfOutcomes arguments old.source.left (λ command outcomes. Reports (errors_from 1 (handled command outcomes)) old.errs new.errs)

-- the status says whether some line is bad
abbrev pub StatusTellsBad : List (List ℕ) → Streams → ℕ → Type 0
StatusTellsBad arguments old status = OfOutcomes arguments old.source.left (λ command outcomes. status ≡ (if some_bad outcomes then 1 else 0))

pub record Completes (arguments : List (List ℕ)) (old new : Streams) (status : ℕ) : Type 0 where
  pub known : (status ≡ 0) ⊎ (status ≡ 1)
  pub all : ReadsAll old new ⊎ StopsAtBad arguments old new status
  pub rows : AppendsRows arguments old new
  pub errors : TellsErrors arguments old new
  pub bad : StatusTellsBad arguments old status

-- ---- status 2: the words ask for nothing, and nothing was read or written

pub record RefusesWords (arguments : List (List ℕ)) (old new : Streams) : Type 0 where
  pub unasked : ¬ (IsLinesRequest arguments)
  pub unread : new.source ≡ old.source
  pub unwritten : new.sink ≡ old.sink
  pub reported : Reports (text_of bad_words) old.errs new.errs

-- ---- status 4, 5, 6 or 7: the run failed

-- the sink gained a prefix of the header and the rows of the lines of these bytes that are handled
pub record AppendsRowsPrefix (command : LinesCommand) (bytes : List ℕ) (old new : Streams) : Type 0 where
  pub outcomes : List Outcome
  pub have : HaveOutcomes command (lines bytes) outcomes
  pub gained : AppendsFront old.sink.gained new.sink.gained (table_text command outcomes)

-- the errors of the first of their lines were reported and then the error of the run, or a prefix
-- of this where that sink failed or memory ran out
pub record TellsErrorsPrefix (command : LinesCommand) (bytes : List ℕ) (error : Error) (old new : Streams) : Type 0 where
  pub outcomes : List Outcome
  pub have : HaveOutcomes command (lines bytes) outcomes
  pub first : List Outcome
  pub later : List Outcome
  pub parted : handled command outcomes ≡ first ++ later
  pub reported : Reports (errors_from 1 first ++ text_of error) old.errs new.errs

-- memory ran out before the words were known
pub record FailsBeforeReading (error : Error) (old new : Streams) : Type 0 where
  pub lacks : error ≡ no_memory
  pub unread : new.source ≡ old.source
  pub unwritten : new.sink ≡ old.sink
  pub reported : Reports (text_of error) old.errs new.errs

-- the words ask for a command, and a part of it was done
pub record FailsWhileReading (arguments : List (List ℕ)) (bytes : List ℕ) (error : Error) (old new : Streams) : Type 0 where
  pub command : LinesCommand
  pub asked : AsksForColumns arguments command
  pub rows : IfSome old.source.left (λ _. AppendsRowsPrefix command bytes old new)
  pub errors : IfSome old.source.left (λ _. TellsErrorsPrefix command bytes error old new)

pub record FailsRun (arguments : List (List ℕ)) (old new : Streams) (status : ℕ) : Type 0 where
  pub error : Error
  pub status_is : status ≡ run_status error.code error.place
  -- the bytes that the source gave in this call
  pub bytes : List ℕ
  pub gives : GivesBytes old.source new.source bytes
  pub cause : RunErrorCause bytes old new error.code error.place
  pub did : FailsBeforeReading error old new ⊎ FailsWhileReading arguments bytes error old new
  -- the status tells of each failed call of source or sink
  pub read_error : old.source.faults < new.source.faults → status ≡ 4
  pub write_error : old.sink.faults < new.sink.faults → status ≡ 5

-- ---- all of it

abbrev pub RunResult : List (List ℕ) → Streams → Streams → ℕ → Type 0
RunResult arguments old new status = Completes arguments old new status ⊎ ((status ≡ 2) × RefusesWords arguments old new) ⊎ FailsRun arguments old new status

-- the words ask for a command, the source has at most 4,294,967,295 bytes, which are known, and
-- no call failed
pub record NothingFails (arguments : List (List ℕ)) (old new : Streams) : Type 0 where
  pub asked : IsLinesRequest arguments
  pub bytes : List ℕ
  pub known : old.source.left ≡ Some bytes
  pub few : length bytes ≤ max_bytes
  pub read : ¬ (Rose old.source.faults new.source.faults)
  pub written : ¬ (Rose old.sink.faults new.sink.faults)
