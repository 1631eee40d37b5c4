-- What a run does, for each status.
use Rattle.std.specs.Prelude.{◌≡◌, ◌≢◌, ◌⊎◌, ℕ, ◌<◌, ◌≤◌, List, [], length, false, Some, IfSome}
use Rattle.json_grammar.specs.Tree.{null}
use Rattle.json_io.specs.declared.error.Error.{Error}
use Rattle.json_io.specs.declared.error.ErrorCode.{ErrorCode}
use Rattle.json_io.specs.declared.error.Place.{Place}
use Rattle.json_io.specs.Errors.{reading_failed, writing_failed, bad_words}
use Rattle.json_io.specs.FaultText.{text_of}
use Rattle.json_io.specs.Known.{Appends, append_known, if_known}
use Rattle.json_io.specs.Outside.{SourceState, SinkState, Rose}
use Rattle.json_io.specs.Transfer.{AppendsFront}
use Rattle.json_layout.specs.TextWriting.{Begins as BeginsWith}
use Rattle.json_command.specs.Input.{max_bytes}
use Rattle.json_command.specs.Reporting.{Reports}
use Rattle.json_lines.specs.Lines.{lines}
use Rattle.json_lines.specs.Reading.{GivesBytes}
use Rattle.json_lines.specs.TopCall.{ErrorCause, run_status}
use Rattle.json_history.specs.History.{new_history}
use Rattle.json_rpc.specs.Serving.{Message}
use Rattle.json_rpc.specs.Sessions.{AreMessages, replies}

-- the states of the source and the sink
pub record ServiceStreams : Type 0 where
  pub source : SourceState
  pub sink : SinkState

abbrev pub service_streams : SourceState → SinkState → ServiceStreams
service_streams source sink = record { source = source; sink = sink }

-- ---- status 0: every line was served

-- the source was read to its end, which came within the limit, and no read failed
pub record ReadsWholeSource (old new : ServiceStreams) : Type 0 where
  pub bytes : List ℕ
  pub gives : GivesBytes old.source new.source bytes
  pub few : length bytes ≤ max_bytes
  pub drained : new.source.left ≡ if_known old.source.left []
  pub read : new.source.faults ≡ old.source.faults

-- the sink gained exactly the replies to all lines, where the document was null and new
pub record AppendsReplies (old new : ServiceStreams) : Type 0 where
  pub messages : List Message
  pub are : IfSome old.source.left (λ b. AreMessages (lines b) messages)
  pub gained : Appends old.sink.gained new.sink.gained (replies (new_history null) messages)

-- no write failed, and the sink was flushed
pub record WritesAll (old new : ServiceStreams) : Type 0 where
  pub written : new.sink.faults ≡ old.sink.faults
  pub flushed : new.sink.unflushed ≡ false

pub record ServesAll (old new : ServiceStreams) : Type 0 where
  pub reads : ReadsWholeSource old new
  pub appends : AppendsReplies old new
  pub writes : WritesAll old new

-- ---- status 4, 5, 6 or 7: the run failed

-- why a run failed to which the source gave these bytes
abbrev pub ServingErrorCause : List ℕ → ServiceStreams → ServiceStreams → ErrorCode → Place → Type 0
ServingErrorCause bytes old new code place = ErrorCause bytes old.source new.source old.sink new.sink code place

-- the sink gained a prefix of the replies to the lines of these bytes
pub record AppendsRepliesPrefix (bytes : List ℕ) (old new : ServiceStreams) : Type 0 where
  pub messages : List Message
  pub are : IfSome old.source.left (λ _. AreMessages (lines bytes) messages)
  pub gained : AppendsFront old.sink.gained new.sink.gained (replies (new_history null) messages)

pub record StopsRun (old new : ServiceStreams) (error : Error) : Type 0 where
  pub bytes : List ℕ
  pub gives : GivesBytes old.source new.source bytes
  pub prefix : AppendsRepliesPrefix bytes old new
  pub cause : ServingErrorCause bytes old new error.code error.place
  -- a failed call is always reported
  pub reading_reported : old.source.faults < new.source.faults → error ≡ reading_failed
  pub writing_told : old.sink.faults < new.sink.faults → error ≡ writing_failed

-- the same of a sink that may hold bytes back
pub record StopsBuffered (old new : ServiceStreams) (error : Error) : Type 0 where
  pub bytes : List ℕ
  pub gives : GivesBytes old.source new.source bytes
  pub messages : List Message
  pub are : IfSome old.source.left (λ _. AreMessages (lines bytes) messages)
  pub prefix : BeginsWith new.sink.gained (append_known old.sink.gained (replies (new_history null) messages))
  pub same_loan : new.sink.loan ≡ old.sink.loan
  pub cause : ServingErrorCause bytes old new error.code error.place
  pub reading_reported : old.source.faults < new.source.faults → error ≡ reading_failed
  pub writing_told : old.sink.faults < new.sink.faults → error ≡ writing_failed

-- ---- all of it

-- there are words, which are looked at first: nothing was read or written
pub record RefusesAnyWords (arguments : List (List ℕ)) (old new : ServiceStreams) (error : Error) : Type 0 where
  pub some : arguments ≢ []
  pub reported : error ≡ bad_words
  pub unread : new.source ≡ old.source
  pub unwritten : new.sink ≡ old.sink

-- there are no words, and the run stopped
pub record FailsServing (arguments : List (List ℕ)) (old new : ServiceStreams) (error : Error) : Type 0 where
  pub none : arguments ≡ []
  pub stops : StopsRun old new error

abbrev pub ServingRunFails : List (List ℕ) → ServiceStreams → ServiceStreams → Error → Type 0
ServingRunFails arguments old new error = RefusesAnyWords arguments old new error ⊎ FailsServing arguments old new error

-- the run failed with this status, and its error was reported
pub record ReportsFailure (arguments : List (List ℕ)) (old new : ServiceStreams) (errs errs' : SinkState) (status : ℕ) : Type 0 where
  pub error : Error
  pub status_is : status ≡ run_status error.code error.place
  pub fails : ServingRunFails arguments old new error
  pub reports : Reports (text_of error) errs errs'

-- status 0: every line was served, and nothing was reported
pub record CompletesServing (arguments : List (List ℕ)) (old new : ServiceStreams) (errs errs' : SinkState) (status : ℕ) : Type 0 where
  pub is : status ≡ 0
  pub none : arguments ≡ []
  pub serves : ServesAll old new
  pub silent : errs' ≡ errs

abbrev pub ServingResult : List (List ℕ) → ServiceStreams → ServiceStreams → SinkState → SinkState → ℕ → Type 0
ServingResult arguments old new errs errs' status = CompletesServing arguments old new errs errs' status ⊎ ReportsFailure arguments old new errs errs' status

-- the statuses of a run
abbrev pub IsRunStatus : ℕ → Type 0
IsRunStatus status = (status ≤ 7) × (status ≢ 1) × (status ≢ 3)

-- there are no words, the source has at most 4,294,967,295 known bytes, and no call failed
pub record NothingFailsServing (arguments : List (List ℕ)) (old new : ServiceStreams) : Type 0 where
  pub no_words : arguments ≡ []
  pub bytes : List ℕ
  pub known : old.source.left ≡ Some bytes
  pub few : length bytes ≤ max_bytes
  pub read : ¬ (Rose old.source.faults new.source.faults)
  pub written : ¬ (Rose old.sink.faults new.sink.faults)
