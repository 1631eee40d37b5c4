-- What a reader of lines holds, and what a call of `next_line` does.
use Rattle.std.specs.Prelude.{◌≡◌, ℕ, ◌+◌, ◌<◌, ◌≤◌, ◌⊎◌, true, List, [], ◌++◌, length, slice_range, None, Some, Ok, Err, IfSome, IfOk, OnOk, IfErr, IsErrOf, Result}
use Rattle.std.specs.Option.{option_map}
use Rattle.std.specs.declared.option.Option.{Option}
use Rattle.json_command.specs.Input.{max_bytes}
use Rattle.json_io.specs.Known.{Consumes, prepend_known, if_known}
use Rattle.json_io.specs.Outside.{SourceState, Rose, counted}
use Rattle.json_io.specs.declared.error.Error.{Error}
use Rattle.json_io.specs.declared.error.ErrorCode.{ErrorCode}
use Rattle.json_io.specs.declared.error.ErrorCode.TheVariants.{Io, TooLarge}
use Rattle.json_io.specs.declared.error.Place.{Place}
use Rattle.json_io.specs.declared.error.Place.TheVariants.{None as nowhere, Reading}
use Rattle.json_lines.specs.declared.line_reader.LineReader.{LineReader}
use Rattle.json_lines.specs.declared.line_reader.Line.{Line}
use Rattle.json_lines.specs.declared.line_reader.Line.TheVariants.{Whole, TooLong}
use Rattle.json_lines.specs.Lines.{has_newline, first_line, after_line}

-- what a contract sees of a reader
pub record ReaderState : Type 0 where
  -- the maximum number of bytes of a line
  pub limit : ℕ
  -- the bytes that were read and not yet returned
  pub held : List ℕ
  -- how many bytes the sources gave this reader
  pub received : ℕ
  -- the error that the reader stopped with, if any
  pub stopped : Option Error

abbrev pub held_bytes : LineReader → List ℕ
held_bytes r = slice_range r.buffer.items r.start r.end

abbrev pub line_reader_state : LineReader → ReaderState
line_reader_state r = record { limit = r.limit; held = held_bytes r; received = r.received; stopped = r.stopped }

-- a new reader
abbrev pub fresh_reader : ℕ → ReaderState
fresh_reader limit = record { limit = limit; held = []; received = 0; stopped = None }

-- the source gave these bytes
pub record GivesBytes (source source' : SourceState) (bytes : List ℕ) : Type 0 where
  pub consumed : Consumes source.left source'.left bytes
  pub given_so : source'.given ≡ counted (length bytes) source.given

-- the source gave the reader these bytes
pub record ReadsBytes (old new : ReaderState) (source source' : SourceState) (bytes : List ℕ) : Type 0 where
  pub consumed : Consumes source.left source'.left bytes
  pub received_so : new.received ≡ old.received + length bytes
  pub given_so : source'.given ≡ counted (length bytes) source.given
  pub same_limit : new.limit ≡ old.limit

-- what `next_line` returns where these bytes are held or left
abbrev pub IsLine : ℕ → List ℕ → Option Line → Type 0
IsLine limit bytes None = bytes ≡ []
IsLine limit bytes (Some (Whole line)) = (0 < length bytes) × (line.now ≡ first_line bytes) × (length line.now ≤ limit)
IsLine limit bytes (Some TooLong) = limit < length (first_line bytes)

-- the line has these bytes, or is too long
abbrev pub IsLineOf : ℕ → List ℕ → Line → Type 0
IsLineOf limit bytes (Whole line) = (line.now ≡ bytes) × (length bytes ≤ limit)
IsLineOf limit bytes TooLong = limit < length bytes

-- why a call failed: a read failed, or the reader received too many bytes
abbrev pub NextLineCause : ReaderState → SourceState → SourceState → ErrorCode → Place → Type 0
NextLineCause new source source' Io Reading = Rose source.faults source'.faults × (new.received ≤ max_bytes)
NextLineCause new source source' TooLarge nowhere = (source'.faults ≡ source.faults) × (max_bytes < new.received)
NextLineCause new source source' code place = ⊥

-- the error of a result
abbrev pub result_error : {T : Type 0} → Result T Error → Option Error
result_error (Ok x) = None
result_error (Err e) = Some e

-- a call of a reader that has not stopped
pub record ReadsLine (old new : ReaderState) (source source' : SourceState) (result : Result (Option Line) Error) : Type 0 where
  -- what the reads of this call gave
  pub bytes : List ℕ
  pub reads : ReadsBytes old new source source' bytes
  -- where the bytes of the source are known: the first line of all that is held and left is
  -- returned, and lost with its newline
  pub line : IfOk result (λ o. IfSome (prepend_known old.held source.left) (λ all. IsLine old.limit all o))
  pub rest : OnOk result (prepend_known new.held source'.left ≡ option_map after_line (prepend_known old.held source.left))
  -- over every source: the same of what was held and read, where a line or the source ends
  pub line_read : IfOk result (λ o. IsLine old.limit (old.held ++ bytes) o)
  pub rest_read : OnOk result (new.held ≡ after_line (old.held ++ bytes))
  pub ended : OnOk result ((has_newline (old.held ++ bytes) ≡ true) ⊎ (source'.left ≡ if_known source.left []))
  -- why the call failed
  pub cause : IfErr result (λ e. NextLineCause new source source' e.code e.place)
  pub few : OnOk result (new.received ≤ max_bytes)
  pub no_fault : OnOk result (source'.faults ≡ source.faults)
  pub stops : new.stopped ≡ result_error result

-- a call of a reader that has stopped: it returns the same error, and reads nothing
pub record RepeatsError (error : Error) (old new : ReaderState) (source source' : SourceState) (result : Result (Option Line) Error) : Type 0 where
  pub again : IsErrOf result error
  pub same : new ≡ old
  pub unread : source' ≡ source

-- a call of `next_line`
pub record NextLineCall (old new : ReaderState) (source source' : SourceState) (result : Result (Option Line) Error) : Type 0 where
  pub first : old.stopped ≡ None → ReadsLine old new source source' result
  pub later : IfSome old.stopped (λ e. RepeatsError e old new source source' result)
