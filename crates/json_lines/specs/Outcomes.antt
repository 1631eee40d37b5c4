-- The outcome of each line, by the grammar of RFC 8259.
use Rattle.std.specs.Prelude.{ℕ, ◌<◌, ◌≤◌, false, List, [], ◌++◌, length}
use Rattle.json_grammar.specs.Grammar.{ws, is_text}
use Rattle.json_grammar.specs.Tree.{Tree, depth}
use Rattle.json_io.specs.FaultText.{text_of}
use Rattle.json_text.specs.Ruled.{usual_rules}
use Rattle.json_io.specs.declared.error.ErrorCode.{ErrorCode}
use Rattle.json_io.specs.declared.error.Place.{Place}
use Rattle.json_command.specs.Input.{InputFault}
use Rattle.json_lines.specs.Cells.{LinesCommand, table_row, table_header}
use Rattle.json_lines.specs.Rows.{Outcome, Row, Bad, AllHave, line_too_long, handled_by, rows_of}

-- the maximum number of bytes of a line
abbrev pub max_line : ℕ
max_line = 1048576

-- A line with more bytes is bad. Of the others, one of whitespace alone (RFC 8259, section 2) is
-- skipped. A text of a tree of at most 254 levels has the row of the tree. Every other line is bad:
-- it is not UTF-8 (section 8.1), or has a fault of the grammar.
pub data HasOutcome (command : LinesCommand) : List ℕ → Outcome → Type 0 where
  too_long : {line : List ℕ} → max_line < length line → HasOutcome command line line_too_long
  blank : {line : List ℕ} → length line ≤ max_line → ws line → HasOutcome command line (Row [])
  good : {line : List ℕ} (t : Tree) → length line ≤ max_line → ¬ (ws line) → is_text false t line → depth t ≤ 254 → HasOutcome command line (Row (table_row command t))
  faulty : {line : List ℕ} (code : ErrorCode) (place : Place) → length line ≤ max_line → ¬ (ws line) → InputFault usual_rules line code place
      → HasOutcome command line (Bad (text_of (record { code = code; place = place })))

-- these lines have these outcomes, one each
abbrev pub HaveOutcomes : LinesCommand → List (List ℕ) → List Outcome → Type 0
HaveOutcomes command lines outcomes = AllHave (HasOutcome command) lines outcomes

-- the outcomes of the lines that the command handles
abbrev pub handled : LinesCommand → List Outcome → List Outcome
handled command outcomes = handled_by command.strict outcomes

-- what is written of lines of these outcomes: the header, and the rows of the lines that are
-- handled
abbrev pub table_text : LinesCommand → List Outcome → List ℕ
table_text command outcomes = table_header command ++ rows_of (handled command outcomes)
