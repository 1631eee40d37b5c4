-- What one step of the loop over lines does.
use Rattle.std.specs.Prelude.{◌≡◌, ℕ, Bool, true, false, List, None, Some, Ok, Err, ◌⊎◌}
use Rattle.json_io.specs.Outside.{SinkState, SourceState}
use Rattle.json_io.specs.declared.error.Error.{Error}
use Rattle.json_lines.specs.declared.line_reader.Line.{Line}
use Rattle.json_lines.specs.declared.run.LineTally.{LineTally}
use Rattle.json_lines.specs.Reading.{ReaderState, NextLineCall}
use Rattle.json_lines.specs.Rows.{Outcome}
use Rattle.json_lines.specs.LineHandling.{LineHas, HandlesLine, LineFails}

-- all that a step may change
pub record RunState : Type 0 where
  pub reader : ReaderState
  pub source : SourceState
  pub sink : SinkState
  pub errs : SinkState
  pub tally : LineTally

-- a line was read and handled
pub record TakesLine (has : List ℕ → Outcome → Type 0) (old new : RunState) : Type 0 where
  pub line : Line
  pub read : NextLineCall old.reader new.reader old.source new.source (Ok (Some line))
  pub handled : HandlesLine (LineHas has line) old.tally new.tally old.sink new.sink old.errs new.errs

-- there was no further line
pub record FindsNoLine (old new : RunState) : Type 0 where
  pub read : NextLineCall old.reader new.reader old.source new.source (Ok None)
  pub sink : new.sink ≡ old.sink
  pub errs : new.errs ≡ old.errs
  pub tally : new.tally ≡ old.tally

abbrev pub StepResult : (List ℕ → Outcome → Type 0) → RunState → RunState → Bool → Type 0
StepResult has old new true = TakesLine has old new
StepResult has old new false = FindsNoLine old new

-- reading the line failed
pub record ReadingLineFails (old new : RunState) (error : Error) : Type 0 where
  pub read : NextLineCall old.reader new.reader old.source new.source (Err error)
  pub sink : new.sink ≡ old.sink
  pub errs : new.errs ≡ old.errs
  pub tally : new.tally ≡ old.tally

-- a line was read, and handling it failed
pub record HandlingLineFails (has : List ℕ → Outcome → Type 0) (old new : RunState) (error : Error) : Type 0 where
  pub line : Line
  pub read : NextLineCall old.reader new.reader old.source new.source (Ok (Some line))
  pub failed : LineFails (LineHas has line) old.tally new.tally old.sink new.sink old.errs new.errs error

abbrev pub StepFails : (List ℕ → Outcome → Type 0) → RunState → RunState → Error → Type 0
StepFails has old new error = ReadingLineFails old new error ⊎ HandlingLineFails has old new error
