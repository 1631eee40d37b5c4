-- What the call that writes all rows does.
use Rattle.std.specs.Prelude.{◌≡◌, ℕ, ◌<◌, ◌≤◌, Bool, true, false, List, [], ◌++◌, length, IfSome, ◌⊎◌, ⊤}
use Rattle.json_io.specs.Known.{Appends, if_known}
use Rattle.json_io.specs.Errors.{reading_failed, writing_failed}
use Rattle.json_io.specs.Outside.{SinkState, SourceState, Rose}
use Rattle.json_io.specs.Transfer.{AppendsFront}
use Rattle.json_command.specs.Statuses.{status_number, status_of}
use Rattle.json_command.specs.declared.status.Status.TheVariants.{TooMuchInput}
use Rattle.json_io.specs.declared.error.Error.{Error}
use Rattle.json_io.specs.declared.error.ErrorCode.{ErrorCode}
use Rattle.json_io.specs.declared.error.ErrorCode.TheVariants.{NoMemory, Io, TooLarge}
use Rattle.json_io.specs.declared.error.Place.{Place}
use Rattle.json_io.specs.declared.error.Place.TheVariants.{None as nowhere, Reading, Writing}
use Rattle.json_lines.specs.declared.run.LineTally.{LineTally}
use Rattle.json_lines.specs.Lines.{lines}
use Rattle.json_lines.specs.Reading.{GivesBytes}
use Rattle.json_command.specs.Input.{max_bytes}
use Rattle.json_command.specs.Reporting.{ReportsUnlessMuted}
use Rattle.json_lines.specs.Rows.{Outcome, rows_of, errors_from, some_bad, AllHave, AreHandledFirst, AreHandledAlone}
use Rattle.json_lines.specs.Running.{StopsEarly}

-- the states of the source, the sink and the sink of errors
pub record Streams : Type 0 where
  pub source : SourceState
  pub sink : SinkState
  pub errs : SinkState

abbrev pub streams : SourceState → SinkState → SinkState → Streams
streams source sink errs = record { source = source; sink = sink; errs = errs }

-- why a run over a source and a sink failed that had read these bytes
abbrev pub ErrorCause : List ℕ → SourceState → SourceState → SinkState → SinkState → ErrorCode → Place → Type 0
ErrorCause bytes source source' sink sink' NoMemory nowhere = ⊤
ErrorCause bytes source source' sink sink' Io Reading = Rose source.faults source'.faults
ErrorCause bytes source source' sink sink' Io Writing = Rose sink.faults sink'.faults
ErrorCause bytes source source' sink sink' TooLarge nowhere = max_bytes < length bytes
ErrorCause bytes source source' sink sink' code place = ⊥

abbrev pub RunErrorCause : List ℕ → Streams → Streams → ErrorCode → Place → Type 0
RunErrorCause bytes old new code place = ErrorCause bytes old.source new.source old.sink new.sink code place

-- the sink gained exactly the header and the rows of the lines of these bytes that the run handles,
-- and their errors were reported
pub record GainsRows (has : List ℕ → Outcome → Type 0) (strict : Bool) (header bytes : List ℕ) (sink sink' errs errs' : SinkState) (tally : LineTally) : Type 0 where
  pub done : List (List ℕ)
  pub later : List (List ℕ)
  pub parted : lines bytes ≡ done ++ later
  pub outcomes : List Outcome
  pub have : AllHave has done outcomes
  pub alone : AreHandledAlone strict outcomes (length later)
  pub rows : Appends sink.gained sink'.gained (header ++ rows_of outcomes)
  pub reports : ReportsUnlessMuted false tally.muted errs errs' (errors_from 1 outcomes)
  pub bad : tally.bad ≡ some_bad outcomes

-- the source was read to its end, or the run is strict and a line was bad
abbrev pub EndsInput : Bool → Streams → Streams → Bool → Type 0
EndsInput strict old new bad = (new.source.left ≡ if_known old.source.left []) ⊎ ((strict ≡ true) × (bad ≡ true))

-- all rows were written and flushed
pub record WritesAllRows (has : List ℕ → Outcome → Type 0) (strict : Bool) (header : List ℕ) (old new : Streams) (tally : LineTally) : Type 0 where
  pub bytes : List ℕ
  pub gives : GivesBytes old.source new.source bytes
  pub few : length bytes ≤ max_bytes
  pub ends : EndsInput strict old new tally.bad
  pub no_fault : new.source.faults ≡ old.source.faults
  pub no_sink_fault : new.sink.faults ≡ old.sink.faults
  pub flushed : new.sink.unflushed ≡ false
  pub handled : IfSome old.source.left (λ b. GainsRows has strict header b old.sink new.sink old.errs new.errs tally)

-- the call failed, and the writer may hold rows back
pub record WritesFewerRows (has : List ℕ → Outcome → Type 0) (strict : Bool) (header : List ℕ) (old new : Streams) (tally : LineTally) (error : Error) : Type 0 where
  pub bytes : List ℕ
  pub gives : GivesBytes old.source new.source bytes
  pub stops : IfSome old.source.left (λ _. StopsEarly has strict header old.sink new.sink old.errs new.errs tally.muted bytes)
  pub cause : RunErrorCause bytes old new error.code error.place
  pub reading_reported : old.source.faults < new.source.faults → error ≡ reading_failed
  pub writing_told : old.sink.faults < new.sink.faults → error ≡ writing_failed

-- a new tally
pub record IsNewTally (t : LineTally) : Type 0 where
  pub number : t.number ≡ 0
  pub good : t.bad ≡ false
  pub unmuted : t.muted ≡ false

-- the sink itself gained a prefix of the rows, and the errors of the handled lines are reported
pub record WritesPrefixes (has : List ℕ → Outcome → Type 0) (strict : Bool) (header : List ℕ) (sink sink' errs errs' : SinkState) (muted : Bool) (bytes : List ℕ) : Type 0 where
  pub done : List (List ℕ)
  pub begun : List (List ℕ)
  pub later : List (List ℕ)
  pub parted : lines bytes ≡ done ++ (begun ++ later)
  pub outcomes : List Outcome
  pub have : AllHave has done outcomes
  pub next : List Outcome
  pub next_have : AllHave has begun next
  pub first : AreHandledFirst strict outcomes
  pub first_next : AreHandledFirst strict (outcomes ++ next)
  pub rows : AppendsFront sink.gained sink'.gained (header ++ (rows_of outcomes ++ rows_of next))
  pub reports : ReportsUnlessMuted false muted errs errs' (errors_from 1 outcomes)

-- the call failed, seen from the sink itself
pub record WritesPartOfTable (has : List ℕ → Outcome → Type 0) (strict : Bool) (header : List ℕ) (old new : Streams) (tally : LineTally) (error : Error) : Type 0 where
  pub bytes : List ℕ
  pub gives : GivesBytes old.source new.source bytes
  pub prefixes : IfSome old.source.left (λ _. WritesPrefixes has strict header old.sink new.sink old.errs new.errs tally.muted bytes)
  pub cause : RunErrorCause bytes old new error.code error.place
  pub reading_reported : old.source.faults < new.source.faults → error ≡ reading_failed
  pub writing_told : old.sink.faults < new.sink.faults → error ≡ writing_failed

-- ---- the statuses

-- the status of an error
abbrev pub run_status : ErrorCode → Place → ℕ
run_status TooLarge nowhere = status_number TooMuchInput
run_status code place = status_of code place
