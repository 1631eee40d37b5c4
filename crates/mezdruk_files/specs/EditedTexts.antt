-- The text of a document that is edited in the layout that it has.
use Rattle.std.specs.Prelude.{◌≡◌, ℕ, ◌-◌, Bool, true, false, cond, List, [], ◌∷◌, ◌++◌, length, take, Result, Ok, Some, None, unwrap_or}
use Rattle.json_grammar.specs.Rules.{Rules}
use Rattle.json_grammar.specs.Tree.{Tree}
use Rattle.json_command.specs.Input.{IsInput}
use Rattle.json_command.specs.Reporting.{Reports}
use Rattle.json_io.specs.Outside.{SinkState}
use Rattle.json_layout.specs.Shown.{shown_as}
use Rattle.json_layout.specs.Styles.{is_sorted}
use Rattle.json_layout.specs.declared.style.Style.{Style}
use Rattle.mezdruk_files.specs.declared.change_error.ChangeError.{ChangeError}
use Rattle.mezdruk_files.specs.declared.document.NamedDocument.{NamedDocument}
use Rattle.mezdruk_files.specs.declared.job.Job.{Job}
use Rattle.mezdruk_files.specs.Documents.{DocumentsHave, document_bytes}
use Rattle.mezdruk_files.specs.FoundLayouts.{found_indent, ends_line, line_end}
use Rattle.mezdruk_files.specs.Running.{PrintsSome}
use Rattle.mezdruk_files.specs.Outcomes.{Task, PartOutcome, output_of, reports_of, greatest_status}

-- the bytes of a document; none if they could not be read
abbrev pub bytes_or_none : NamedDocument → List ℕ
bytes_or_none d = unwrap_or (document_bytes d) []

-- the job sorts members
abbrev pub sorts_members : {C : Type 0} → Job C → Bool
sorts_members job = elim job.style [ Some style ↦ is_sorted style | None ↦ false ]

-- the job in another style
abbrev pub in_style : {C : Type 0} → Job C → Style → Job C
in_style job style = record job { style = Some style; raw = false; each = false }

-- the output, without the newline at its end if the bytes have none
abbrev pub with_end_of : List ℕ → List ℕ → List ℕ
with_end_of b output = cond (ends_line b) output (take (length output - 1) output)

-- the text is the output of a run over the document, whose errors were reported; the status is the greatest
pub record EditsDocument (task : Task) (d : NamedDocument) (errs errs' : SinkState) (text : List ℕ) (status : ℕ) : Type 0 where
  pub outcomes : List PartOutcome
  pub have : DocumentsHave true task (d ∷ []) outcomes
  pub whole : text ≡ with_end_of (bytes_or_none d) (output_of outcomes)
  pub reports : Reports (reports_of outcomes) errs errs'
  pub status_is : status ≡ greatest_status outcomes

-- the text is that of the changed tree of the bytes, in the layout that the bytes have
pub record KeepsLayout (rules : Rules) (changed : Tree → Result Tree ChangeError) (sorts : Bool) (b text : List ℕ) : Type 0 where
  pub tree : Tree
  pub input : IsInput rules b tree
  pub edited : Tree
  pub edited_is : changed tree ≡ Ok edited
  pub whole : text ≡ shown_as (found_indent b) sorts edited ++ line_end b

-- memory ran out: the errors of the first parts were reported, and then that of the run
abbrev pub FailsToEdit : Task → NamedDocument → SinkState → SinkState → ℕ → Type 0
FailsToEdit task d errs errs' status = (sink : SinkState) × (sink' : SinkState) × PrintsSome task (d ∷ []) sink sink' errs errs' status
