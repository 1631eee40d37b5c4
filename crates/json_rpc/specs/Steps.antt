-- What one step of the loop over lines does, and all of them.
use Rattle.std.specs.Prelude.{◌≡◌, ◌⊎◌, ℕ, ◌<◌, ◌≤◌, Bool, true, false, List, [], None, Some, Ok, Err, IfSome}
use Rattle.json_io.specs.declared.error.Error.{Error}
use Rattle.json_io.specs.Errors.{reading_failed, writing_failed}
use Rattle.json_io.specs.Known.{append_known, if_known}
use Rattle.json_io.specs.Outside.{SinkState, SourceState}
use Rattle.json_layout.specs.TextWriting.{Begins as BeginsWith, StopCause, WritesText}
use Rattle.json_command.specs.Input.{max_bytes}
use Rattle.json_lines.specs.declared.line_reader.Line.{Line}
use Rattle.json_lines.specs.Lines.{lines}
use Rattle.json_lines.specs.Reading.{ReaderState, NextLineCall, ReadsBytes, NextLineCause}
use Rattle.json_history.specs.History.{TreeHistory}
use Rattle.json_rpc.specs.Serving.{Message, max_line_bytes}
use Rattle.json_rpc.specs.Sessions.{AreMessages, replies, ServesLine, ServingFails}

-- all that a step may change
pub record ServingState : Type 0 where
  pub reader : ReaderState
  pub source : SourceState
  pub out : SinkState
  pub history : TreeHistory

-- ---- one step

-- a line was read and served, and its reply written
pub record ServesNextLine (old new : ServingState) : Type 0 where
  pub line : Line
  pub read : NextLineCall old.reader new.reader old.source new.source (Ok (Some line))
  pub serves : ServesLine old.history line new.history old.out new.out

-- there was no further line
pub record ServesNoLine (old new : ServingState) : Type 0 where
  pub read : NextLineCall old.reader new.reader old.source new.source (Ok None)
  pub out : new.out ≡ old.out
  pub history : new.history ≡ old.history

abbrev pub ServingStepResult : ServingState → ServingState → Bool → Type 0
ServingStepResult old new true = ServesNextLine old new
ServingStepResult old new false = ServesNoLine old new

-- reading the line failed
pub record ServingReadFails (old new : ServingState) (error : Error) : Type 0 where
  pub read : NextLineCall old.reader new.reader old.source new.source (Err error)
  pub out : new.out ≡ old.out

-- a line was read, and serving it failed
pub record ServingLineFails (old new : ServingState) (error : Error) : Type 0 where
  pub line : Line
  pub read : NextLineCall old.reader new.reader old.source new.source (Ok (Some line))
  pub failed : ServingFails old.history line new.history old.out new.out error

abbrev pub ServingStepFails : ServingState → ServingState → Error → Type 0
ServingStepFails old new error = ServingReadFails old new error ⊎ ServingLineFails old new error

-- ---- all steps

-- nothing was read yet
pub record IsFreshServing (s : ServingState) : Type 0 where
  pub limit : s.reader.limit ≡ max_line_bytes
  pub held : s.reader.held ≡ []
  pub received : s.reader.received ≡ 0
  pub going : s.reader.stopped ≡ None

-- all lines were served, and their replies written
pub record FinishesServing (old new : ServingState) : Type 0 where
  pub bytes : List ℕ
  pub reads : ReadsBytes old.reader new.reader old.source new.source bytes
  pub all : IfSome old.source.left (λ b. b ≡ bytes)
  pub drained : new.source.left ≡ if_known old.source.left []
  pub no_fault : new.source.faults ≡ old.source.faults
  pub few : new.reader.received ≤ max_bytes
  pub messages : List Message
  pub are : IfSome old.source.left (λ b. AreMessages (lines b) messages)
  pub writes : WritesText old.out new.out (replies old.history messages) (Ok tt)

-- why the loop failed
abbrev pub LoopErrorCause : ServingState → ServingState → Error → Type 0
LoopErrorCause old new error =
    NextLineCause new.reader old.source new.source error.code error.place
    ⊎ (StopCause old.out.faults new.out.faults error.code error.place × (new.source.faults ≡ old.source.faults) × (new.reader.received ≤ max_bytes))

-- the loop failed: of the replies to all lines that were read a prefix was written
pub record StopsServing (old new : ServingState) (error : Error) : Type 0 where
  pub bytes : List ℕ
  pub reads : ReadsBytes old.reader new.reader old.source new.source bytes
  pub messages : List Message
  pub are : IfSome old.source.left (λ _. AreMessages (lines bytes) messages)
  pub prefix : BeginsWith new.out.gained (append_known old.out.gained (replies old.history messages))
  pub same_loan : new.out.loan ≡ old.out.loan
  pub cause : LoopErrorCause old new error
  -- a failed call is always reported
  pub reading_reported : old.source.faults < new.source.faults → error ≡ reading_failed
  pub writing_told : old.out.faults < new.out.faults → error ≡ writing_failed
