-- What is done with one line.
use Rattle.std.specs.Prelude.{◌≡◌, ℕ, ◌+◌, ◌≤◌, length, ◌||◌, List, None, Some, Ok, Err, ⊤}
use Rattle.std.specs.declared.option.Option.{Option}
use Rattle.json_io.specs.Outside.{SinkState}
use Rattle.json_layout.specs.TextWriting.{WritesText}
use Rattle.json_io.specs.declared.error.Error.{Error}
use Rattle.json_io.specs.declared.message.FaultText.{FaultText}
use Rattle.json_lines.specs.declared.line_reader.Line.{Line}
use Rattle.json_lines.specs.declared.line_reader.Line.TheVariants.{Whole, TooLong}
use Rattle.json_lines.specs.declared.run.LineTally.{LineTally}
use Rattle.json_lines.specs.Rows.{Outcome, Row, Bad, outcome_row, is_bad, error_bytes, line_too_long}
use Rattle.json_command.specs.Reporting.{ReportsUnlessMuted}

-- the error text that is returned: none for a row
abbrev pub ReturnsOutcome : Outcome → Option FaultText → Type 0
ReturnsOutcome (Row bytes) None = ⊤
ReturnsOutcome (Bad text) (Some fault) = fault ≡ text
ReturnsOutcome outcome fault = ⊥

-- the row of a line was written; a bad line has none, and its error text is returned
pub record WritesRow (has : Outcome → Type 0) (old new : SinkState) (fault : Option FaultText) : Type 0 where
  pub outcome : Outcome
  pub has_it : has outcome
  pub returned : ReturnsOutcome outcome fault
  pub row : WritesText old new (outcome_row outcome) (Ok tt)

-- the row of a line was not written, or only a prefix of it
pub record RowFails (has : Outcome → Type 0) (old new : SinkState) (error : Error) : Type 0 where
  pub outcome : Outcome
  pub has_it : has outcome
  pub row : WritesText old new (outcome_row outcome) (Err error)

-- the outcome of a line that was read
abbrev pub LineHas : (List ℕ → Outcome → Type 0) → Line → Outcome → Type 0
LineHas has (Whole line) outcome = has line.now outcome
LineHas has TooLong outcome = outcome ≡ line_too_long

-- a line of at most n bytes
abbrev pub IsWithinLimit : ℕ → Line → Type 0
IsWithinLimit limit (Whole line) = length line.now ≤ limit
IsWithinLimit limit TooLong = ⊤

-- a line was counted, and its row written or its error reported
pub record HandlesLine (has : Outcome → Type 0) (old new : LineTally) (sink sink' errs errs' : SinkState) : Type 0 where
  pub outcome : Outcome
  pub has_it : has outcome
  pub row : WritesText sink sink' (outcome_row outcome) (Ok tt)
  pub report : ReportsUnlessMuted old.muted new.muted errs errs' (error_bytes new.number outcome)
  pub number : new.number ≡ old.number + 1
  pub bad : new.bad ≡ (old.bad || is_bad outcome)

-- a line was not handled
pub record LineFails (has : Outcome → Type 0) (old new : LineTally) (sink sink' errs errs' : SinkState) (error : Error) : Type 0 where
  pub row : RowFails has sink sink' error
  pub silent : errs' ≡ errs
  pub muted : new.muted ≡ old.muted
