-- What filtering lines returns.
use Rattle.std.specs.Prelude.{◌≡◌, ◌⊎◌, ◌<◌, ℕ, false, List, [], ◌∷◌, ◌++◌, length, Some, codes, ⊤}
use Rattle.json_command.specs.Input.{max_bytes}
use Rattle.json_io.specs.Utf8.{Utf8Cause}
use Rattle.json_io.specs.declared.error.ErrorCode.{ErrorCode}
use Rattle.json_io.specs.declared.error.ErrorCode.TheVariants.{NoMemory, TooLarge}
use Rattle.json_io.specs.declared.error.Place.{Place}
use Rattle.json_io.specs.declared.error.Place.TheVariants.{None as nowhere}
use Rattle.json_lines.specs.Cells.{LinesCommand, tabbed_rows}
use Rattle.json_lines.specs.Lines.{lines}
use Rattle.json_lines.specs.Outcomes.{HaveOutcomes, handled, table_text}
use Rattle.json_lines.specs.Rows.{Outcome, rows_of, errors_from}
use Rattle.json_lines.specs.Words.{SpellsCommand, IsLinesRequest}
use Rattle.mezdruk_c.specs.declared.failure.Failure.{Failure}
use Rattle.mezdruk_c.specs.declared.failure.Failure.TheVariants.{Options as bad_options, Argument, Text}

-- a command is asked for; the output is what the command writes of the lines of the text, and the
-- errors are those of its bad lines that are handled with their numbers, counted from 1
pub record FiltersBy (Asks : LinesCommand → Type 0) (text output errors : List ℕ) : Type 0 where
  pub command : LinesCommand
  pub asked : Asks command
  pub outcomes : List Outcome
  pub have : HaveOutcomes command (lines text) outcomes
  pub rows : output ≡ table_text command outcomes
  pub reported : errors ≡ errors_from 1 (handled command outcomes)

-- the columns and the path ask for a command whose output is the rows of all lines, with tabs
-- between the cells, and the errors are those of all bad lines
pub record FiltersLines (columns has text output errors : List ℕ) : Type 0 where
  pub command : LinesCommand
  pub asked : SpellsCommand columns (Some has) false tabbed_rows command
  pub outcomes : List Outcome
  pub have : HaveOutcomes command (lines text) outcomes
  pub rows : output ≡ rows_of outcomes
  pub reported : errors ≡ errors_from 1 outcomes

-- the words by which the command line asks for them
abbrev pub lines_words : List ℕ → List ℕ → List (List ℕ)
lines_words columns has = (codes "--has=" ++ has) ∷ columns ∷ []

-- why the lines of a text are not filtered: memory ran out, or the text is too long
abbrev pub LinesTextFails : List ℕ → ErrorCode → Place → Type 0
LinesTextFails text NoMemory nowhere = ⊤
LinesTextFails text TooLarge nowhere = max_bytes < length text
LinesTextFails text code place = ⊥

-- why they are not filtered by words
abbrev pub FilteringFails : List (List ℕ) → List ℕ → Failure → Type 0
FilteringFails words text bad_options = ¬ (IsLinesRequest words)
FilteringFails words text (Text e) = LinesTextFails text e.code e.place
FilteringFails words text failure = ⊥

-- why they are not filtered: one row for each kind of failure
abbrev pub LinesFail : List ℕ → List ℕ → List ℕ → Failure → Type 0
LinesFail columns has text bad_options = (command : LinesCommand) → ¬ (SpellsCommand columns (Some has) false tabbed_rows command)
LinesFail columns has text (Argument e) = Utf8Cause columns e.code e.place ⊎ Utf8Cause has e.code e.place
LinesFail columns has text (Text e) = LinesTextFails text e.code e.place
LinesFail columns has text failure = ⊥
