-- What becomes of a document: its lines are printed, and its errors are reported.
use Rattle.std.specs.Prelude.{◌≡◌, ◌⊎◌, ℕ, ◌+◌, ◌≤◌, max, ⊤, Bool, true, false, List, [], ◌∷◌, ◌++◌, drop, Result, Ok, Err, Some, None, option_map, unwrap_or, string_bytes}
use Rattle.std.specs.declared.option.Option.{Option}
use Rattle.std.specs.List.{flat_map}
use Rattle.json_grammar.specs.Grammar.{ws}
use Rattle.json_grammar.specs.Rules.{Rules}
use Rattle.json_grammar.specs.Tree.{Tree}
use Rattle.json_io.specs.declared.error.Error.{Error}
use Rattle.json_io.specs.declared.error.ErrorCode.{ErrorCode}
use Rattle.json_io.specs.declared.error.ErrorCode.TheVariants.{NoMemory}
use Rattle.json_io.specs.declared.error.Place.{Place}
use Rattle.json_io.specs.declared.error.Place.TheVariants.{None as nowhere}
use Rattle.json_io.specs.Errors.{reading_failed}
use Rattle.json_text.specs.Ruled.{rules_of}
use Rattle.json_doc.specs.Readings.{elements, string_of}
use Rattle.json_layout.specs.Styles.{printed}
use Rattle.json_layout.specs.declared.style.Style.{Style}
use Rattle.json_command.specs.Input.{IsInput, InputFault}
use Rattle.json_command.specs.Statuses.{status_of}
use Rattle.mezdruk_files.specs.Parts.{DocumentPart, whole_part, line_parts, lines_of}
use Rattle.mezdruk_files.specs.Reports.{IsReport}
use Rattle.mezdruk_files.specs.declared.change_error.ChangeError.{ChangeError}
use Rattle.mezdruk_files.specs.declared.document_error.DocumentError.{DocumentError}
use Rattle.mezdruk_files.specs.declared.document_error.DocumentError.TheVariants.{Input, Change}
use Rattle.mezdruk_files.specs.declared.job.InputForm.{InputForm}
use Rattle.mezdruk_files.specs.declared.job.Job.{Job}

-- ---- what is done

-- the text of a tree in a style, or the content of a string
abbrev pub printed_or_string : Bool → Style → Tree → List ℕ
printed_or_string false style tree = printed style tree
printed_or_string true style tree = unwrap_or (string_of tree) (printed style tree)

-- the line of a tree in the output: its text and a newline; nothing if no style is asked for
abbrev pub line_in : Bool → Option Style → Tree → List ℕ
line_in raw None tree = []
line_in raw (Some style) tree = printed_or_string raw style tree ++ 10 ∷ []

-- the lines of a tree: its line, or that of each element if these are printed each
abbrev pub lines_in : Bool → Bool → Option Style → Tree → List ℕ
lines_in false raw style tree = line_in raw style tree
lines_in true raw style tree = flat_map (line_in raw style) (elements tree)

-- what is done with documents: how their bytes are cut, the rules by which they are read, what becomes of a tree, and the
-- lines of a tree
pub record Task : Type 0 where
  pub form : InputForm
  pub rules : Rules
  pub changed : Tree → Result Tree ChangeError
  pub line : Tree → List ℕ

-- what a job asks for, if its change makes this of a tree
abbrev pub task_of : {C : Type 0} → (C → Tree → Result Tree ChangeError) → Job C → Task
task_of changed job = record { form = job.input; rules = rules_of job.rules; changed = changed job.change; line = lines_in job.each job.raw job.style }

-- ---- the outcome of a part of a document

-- the line that is printed, or the error with its report
pub data PartOutcome : Type 0 where
  Printed : List ℕ → PartOutcome
  Refused : DocumentError → List ℕ → PartOutcome

-- the outcome of a tree that was read: the line of the changed tree, or the error of the change
abbrev pub TreeOutcome : Task → DocumentPart → Tree → PartOutcome → Type 0
TreeOutcome task part tree (Printed line) = (changed : Tree) × (task.changed tree ≡ Ok changed) × (line ≡ task.line changed)
TreeOutcome task part tree (Refused (Change e) report) = (task.changed tree ≡ Err e) × IsReport part (Change e) report
TreeOutcome task part tree (Refused (Input e) report) = ⊥

-- the outcome of bytes: that of their tree, or their error
abbrev pub HasPartOutcome : Task → DocumentPart → PartOutcome → Type 0
HasPartOutcome task part (Refused (Input e) report) = InputFault task.rules part.bytes e.code e.place × IsReport part (Input e) report
HasPartOutcome task part outcome = (tree : Tree) × IsInput task.rules part.bytes tree × TreeOutcome task part tree outcome

-- the outcome of a line: nothing is printed of one that has only whitespace (RFC 8259, section 2)
abbrev pub LineOutcome : Task → DocumentPart → PartOutcome → Type 0
LineOutcome task part outcome = (ws part.bytes × (outcome ≡ Printed [])) ⊎ (¬ (ws part.bytes) × HasPartOutcome task part outcome)

-- the outcome of a document that could not be read
abbrev pub IsUnread : DocumentPart → PartOutcome → Type 0
IsUnread part (Refused (Input e) report) = (e ≡ reading_failed) × IsReport part (Input e) report
IsUnread part _ = ⊥

-- these parts have these outcomes; if not of the whole, the first of them
abbrev pub PartsHave : Bool → (DocumentPart → PartOutcome → Type 0) → List DocumentPart → List PartOutcome → Type 0
PartsHave whole Has [] [] = ⊤
PartsHave whole Has (part ∷ later) [] = whole ≡ false
PartsHave whole Has [] (outcome ∷ outcomes) = ⊥
PartsHave whole Has (part ∷ later) (outcome ∷ outcomes) = Has part outcome × PartsHave whole Has later outcomes

-- ---- the output, the reports and the status

abbrev pub outcome_line : PartOutcome → List ℕ
outcome_line (Printed line) = line
outcome_line (Refused error report) = []

abbrev pub outcome_report : PartOutcome → List ℕ
outcome_report (Printed line) = []
outcome_report (Refused error report) = report

abbrev pub document_error_status : DocumentError → ℕ
document_error_status (Input e) = status_of e.code e.place
document_error_status (Change e) = 3

abbrev pub outcome_status : PartOutcome → ℕ
outcome_status (Printed line) = 0
outcome_status (Refused error report) = document_error_status error

abbrev pub output_of : List PartOutcome → List ℕ
output_of outcomes = flat_map outcome_line outcomes

abbrev pub reports_of : List PartOutcome → List ℕ
reports_of outcomes = flat_map outcome_report outcomes

abbrev pub greatest_status : List PartOutcome → ℕ
greatest_status [] = 0
greatest_status (outcome ∷ later) = max (outcome_status outcome) (greatest_status later)
