-- Laws of lines, of their outcomes and of the words.
use Rattle.std.specs.Prelude.{◌≡◌, ◌⊎◌, ℕ, ◌+◌, Bool, ◌||◌, List, [], ◌∷◌, ◌++◌, length}
use Rattle.json_lines.specs.Cells.{LinesCommand}
use Rattle.json_lines.specs.Lines.{lines}
use Rattle.json_lines.specs.Outcomes.{HasOutcome, HaveOutcomes}
use Rattle.json_lines.specs.Rows.{Outcome, rows_of, errors_from, some_bad}
use Rattle.json_lines.specs.Words.{AsksForColumns}

abbrev pub SomeOutcome : Type 0
SomeOutcome = (command : LinesCommand) (line : List ℕ) → (outcome : Outcome) × HasOutcome command line outcome

abbrev pub OneOutcome : Type 0
OneOutcome = (command : LinesCommand) (line : List ℕ) (o o' : Outcome) → HasOutcome command line o → HasOutcome command line o' → o ≡ o'

abbrev pub OneLinesCommand : Type 0
OneLinesCommand = (arguments : List (List ℕ)) (c c' : LinesCommand) → AsksForColumns arguments c → AsksForColumns arguments c' → c ≡ c'

-- ---- bytes that are filtered in pieces

-- no bytes, or bytes that end with a newline
abbrev pub EndsWithNewline : List ℕ → Type 0
EndsWithNewline bytes = (bytes ≡ []) ⊎ ((front : List ℕ) × (bytes ≡ front ++ 10 ∷ []))

-- what the command makes of these bytes, the first line of which has this number, if it handles all
-- lines: the rows below the header, the errors, and whether some line is bad
pub record Filters (command : LinesCommand) (number : ℕ) (bytes rows errors : List ℕ) (bad : Bool) : Type 0 where
  pub outcomes : List Outcome
  pub have : HaveOutcomes command (lines bytes) outcomes
  pub rows_so : rows ≡ rows_of outcomes
  pub errors_so : errors ≡ errors_from number outcomes
  pub bad_so : bad ≡ some_bad outcomes

-- The first piece ends with a newline. Then the rows of both are those of the first and then those
-- of the second. So are the errors, where the lines of the second are counted on from the first.
abbrev pub PieceByPiece : Type 0
PieceByPiece = (command : LinesCommand) (number : ℕ) (a b rows rows' errors errors' : List ℕ) (bad bad' : Bool) → EndsWithNewline a
    → Filters command number a rows errors bad → Filters command (number + length (lines a)) b rows' errors' bad'
    → Filters command number (a ++ b) (rows ++ rows') (errors ++ errors') (bad || bad')

abbrev pub LinesInPieces : Type 0
LinesInPieces = (a b : List ℕ) → EndsWithNewline a → lines (a ++ b) ≡ lines a ++ lines b
