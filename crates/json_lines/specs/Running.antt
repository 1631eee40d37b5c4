-- What the loop over all lines does.
use Rattle.std.specs.Prelude.{◌≡◌, ℕ, ◌<◌, ◌≤◌, Bool, true, false, List, [], ◌++◌, length, None, IfSome, Ok, ◌⊎◌, ⊤}
use Rattle.json_io.specs.Known.{if_known, append_known}
use Rattle.json_io.specs.Outside.{SinkState, SourceState, Rose}
use Rattle.json_layout.specs.TextWriting.{Begins as BeginsWith, WritesText}
use Rattle.json_io.specs.declared.error.Error.{Error}
use Rattle.json_io.specs.declared.error.ErrorCode.{ErrorCode}
use Rattle.json_io.specs.declared.error.ErrorCode.TheVariants.{NoMemory, Io}
use Rattle.json_io.specs.declared.error.Place.{Place}
use Rattle.json_io.specs.declared.error.Place.TheVariants.{None as nowhere, Writing}
use Rattle.json_io.specs.Errors.{reading_failed, writing_failed}
use Rattle.json_lines.specs.declared.line_reader.LineReader.{LineReader}
use Rattle.json_lines.specs.declared.run.LineTally.{LineTally}
use Rattle.json_lines.specs.Lines.{lines}
use Rattle.json_lines.specs.Reading.{line_reader_state, ReadsBytes, NextLineCause}
use Rattle.json_command.specs.Input.{max_bytes}
use Rattle.json_command.specs.Reporting.{ReportsUnlessMuted}
use Rattle.json_lines.specs.Rows.{Outcome, rows_of, errors_from, some_bad, AllHave, AreHandledFirst, AreHandledAlone}
use Rattle.json_lines.specs.Steps.{RunState}

-- nothing was read or counted yet
pub record IsFreshRun (s : RunState) : Type 0 where
  pub held : s.reader.held ≡ []
  pub received : s.reader.received ≡ 0
  pub going : s.reader.stopped ≡ None
  pub number : s.tally.number ≡ 0
  pub good : s.tally.bad ≡ false
  pub unmuted : s.tally.muted ≡ false

-- the rows of these lines were written, and their errors reported
pub record HandlesLines (has : List ℕ → Outcome → Type 0) (done : List (List ℕ)) (sink sink' errs errs' : SinkState) (tally : LineTally) : Type 0 where
  pub outcomes : List Outcome
  pub have : AllHave has done outcomes
  pub rows : WritesText sink sink' (rows_of outcomes) (Ok tt)
  pub reports : ReportsUnlessMuted false tally.muted errs errs' (errors_from 1 outcomes)
  pub bad : tally.bad ≡ some_bad outcomes

-- the first lines of these bytes were handled: all, or where the run is strict those up to the
-- first bad one
pub record HandlesAll (has : List ℕ → Outcome → Type 0) (strict : Bool) (bytes : List ℕ) (sink sink' errs errs' : SinkState) (tally : LineTally) : Type 0 where
  pub done : List (List ℕ)
  pub later : List (List ℕ)
  pub parted : lines bytes ≡ done ++ later
  pub handled : HandlesLines has done sink sink' errs errs' tally
  pub alone : AreHandledAlone strict handled.outcomes (length later)

-- some of the lines of these bytes were handled, and the next one begun where there is one; these
-- bytes were written before
pub record StopsEarly (has : List ℕ → Outcome → Type 0) (strict : Bool) (header : List ℕ) (sink sink' errs errs' : SinkState) (muted : Bool) (bytes : List ℕ) : Type 0 where
  pub done : List (List ℕ)
  pub begun : List (List ℕ)
  pub later : List (List ℕ)
  pub parted : lines bytes ≡ done ++ (begun ++ later)
  pub outcomes : List Outcome
  pub have : AllHave has done outcomes
  pub next : List Outcome
  pub next_have : AllHave has begun next
  -- they are those that the run handles
  pub first : AreHandledFirst strict outcomes
  pub first_next : AreHandledFirst strict (outcomes ++ next)
  -- a prefix of their rows was written, and the errors of those that were handled are reported
  pub rows : BeginsWith sink'.gained (append_known sink.gained (header ++ (rows_of outcomes ++ rows_of next)))
  pub reports : ReportsUnlessMuted false muted errs errs' (errors_from 1 outcomes)

-- the source was read to its end, or the run is strict and a line was bad
abbrev pub EndsReading : Bool → RunState → RunState → Type 0
EndsReading strict old new = (new.source.left ≡ if_known old.source.left []) ⊎ ((strict ≡ true) × (new.tally.bad ≡ true))

-- all lines that the run handles were handled
pub record FinishesLines (has : List ℕ → Outcome → Type 0) (strict : Bool) (old new : RunState) : Type 0 where
  pub bytes : List ℕ
  pub reads : ReadsBytes old.reader new.reader old.source new.source bytes
  pub ends : EndsReading strict old new
  pub few : new.reader.received ≤ max_bytes
  pub no_fault : new.source.faults ≡ old.source.faults
  pub no_sink_fault : new.sink.faults ≡ old.sink.faults
  pub same_loan : new.sink.loan ≡ old.sink.loan
  pub handled : IfSome old.source.left (λ b. HandlesAll has strict b old.sink new.sink old.errs new.errs new.tally)
  -- the same of the bytes that were read
  pub stops : IfSome old.source.left (λ _. StopsEarly has strict [] old.sink new.sink old.errs new.errs new.tally.muted bytes)

-- why a row was not written
abbrev pub RowErrorCause : SinkState → SinkState → ErrorCode → Place → Type 0
RowErrorCause old new NoMemory nowhere = ⊤
RowErrorCause old new Io Writing = Rose old.faults new.faults
RowErrorCause old new code place = ⊥

-- the loop failed
pub record FailsEarly (has : List ℕ → Outcome → Type 0) (strict : Bool) (old new : RunState) (error : Error) : Type 0 where
  pub bytes : List ℕ
  pub reads : ReadsBytes old.reader new.reader old.source new.source bytes
  pub stops : IfSome old.source.left (λ _. StopsEarly has strict [] old.sink new.sink old.errs new.errs new.tally.muted bytes)
  pub cause : NextLineCause new.reader old.source new.source error.code error.place ⊎ (RowErrorCause old.sink new.sink error.code error.place × (new.source.faults ≡ old.source.faults) × (new.reader.received ≤ max_bytes))
  -- the error tells of each failed call
  pub reading_reported : old.source.faults < new.source.faults → error ≡ reading_failed
  pub writing_told : old.sink.faults < new.sink.faults → error ≡ writing_failed
  pub same_loan : new.sink.loan ≡ old.sink.loan

abbrev pub run_state : LineReader → SourceState → SinkState → SinkState → LineTally → RunState
run_state reader source sink errs tally = record { reader = line_reader_state reader; source = source; sink = sink; errs = errs; tally = tally }
