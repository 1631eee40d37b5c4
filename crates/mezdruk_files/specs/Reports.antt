-- The report of the error of a document.
use Rattle.std.specs.Prelude.{◌≡◌, ℕ, ◌+◌, true, cond, nat_le, List, [], ◌++◌, length, None, Some, codes, decimal}
use Rattle.std.specs.declared.option.Option.{Option}
use Rattle.json_io.specs.declared.error.Error.{Error}
use Rattle.json_io.specs.declared.error.Place.{Place}
use Rattle.json_io.specs.declared.error.Place.TheVariants.{None as nowhere, At}
use Rattle.json_io.specs.Errors.{name_of}
use Rattle.json_io.specs.Positions.{line_at, column_at}
use Rattle.mezdruk_files.specs.declared.change_error.ChangeCode.{ChangeCode}
use Rattle.mezdruk_files.specs.declared.change_error.ChangeCode.TheVariants.{NoMemory, NotFound, TypeUnmatched, BadPatch, TestFailed}
use Rattle.mezdruk_files.specs.declared.document_error.DocumentError.{DocumentError}
use Rattle.mezdruk_files.specs.declared.document_error.DocumentError.TheVariants.{Input, Change}
use Rattle.mezdruk_files.specs.declared.part.Scope.{Scope}
use Rattle.mezdruk_files.specs.declared.part.Scope.TheVariants.{Document, Line, Value}
use Rattle.mezdruk_files.specs.declared.report.Position.{Position}
use Rattle.mezdruk_files.specs.Excerpts.{IsExcerpt}
use Rattle.mezdruk_files.specs.Parts.{DocumentPart}
use Rattle.mezdruk_files.specs.Sentences.{is_lower_case, document_sentence, HintFits, hint_line}

-- ---- the first line

-- the line and the column, if they are known
abbrev pub location : List ℕ → Option Position → List ℕ
location name None = name
location name (Some p) = name ++ codes ":" ++ decimal p.line ++ codes ":" ++ decimal p.column

-- the name of the document, the line and the column, a sentence, and the name of the code
pub record IsHeadline (name : List ℕ) (position : Option Position) (sentence code_name line : List ℕ) : Type 0 where
  pub whole : line ≡ location name position ++ codes ": " ++ sentence ++ codes " (" ++ code_name ++ codes ")\n"

-- ---- the whole report

-- the name of the code
abbrev pub change_name : ChangeCode → List ℕ
change_name NoMemory = codes "NoMemory"
change_name NotFound = codes "NotFound"
change_name TypeUnmatched = codes "TypeUnmatched"
change_name (BadPatch problem) = codes "BadPatch"
change_name TestFailed = codes "TestFailed"

abbrev pub document_error_name : DocumentError → List ℕ
document_error_name (Input e) = name_of e.code
document_error_name (Change e) = change_name e.code

-- a change that does not apply is reported at the beginning of its line, and of a document without a place
abbrev pub scope_place : Scope → Place
scope_place Line = At 0 1 1
scope_place scope = nowhere

abbrev pub error_place : Scope → DocumentError → Place
error_place scope (Input e) = e.place
error_place scope (Change e) = scope_place scope

-- the offset of a place in the bytes
abbrev pub report_offset : List ℕ → Place → Option ℕ
report_offset bytes (At offset line column) = cond (nat_le offset (length bytes)) (Some offset) None
report_offset bytes _ = None

-- its line and its column, if n lines precede the bytes
abbrev pub position_of : ℕ → List ℕ → Option ℕ → Option Position
position_of before bytes None = None
position_of before bytes (Some offset) = Some (record { line = before + line_at bytes offset; column = column_at bytes offset })

-- the excerpt at an offset
abbrev pub IsExcerptAt : List ℕ → Option ℕ → List ℕ → Type 0
IsExcerptAt bytes None excerpt = excerpt ≡ []
IsExcerptAt bytes (Some offset) excerpt = IsExcerpt bytes offset excerpt

-- the first line, the excerpt, and a hint or nothing
pub record IsReport (part : DocumentPart) (error : DocumentError) (report : List ℕ) : Type 0 where
  -- the word for a part of the change
  pub part_name : List ℕ
  pub part_name_is_word : is_lower_case part_name ≡ true
  pub line : List ℕ
  pub headline : IsHeadline part.name (position_of part.before part.bytes (report_offset part.bytes (error_place part.scope error))) (document_sentence part.scope part_name error) (document_error_name error) line
  pub excerpt : List ℕ
  pub excerpt_is : IsExcerptAt part.bytes (report_offset part.bytes (error_place part.scope error)) excerpt
  pub hint : Option (List ℕ)
  pub hint_fits : HintFits error hint
  pub whole : report ≡ line ++ excerpt ++ hint_line hint
