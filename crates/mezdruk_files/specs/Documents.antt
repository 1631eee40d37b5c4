-- The outcomes of documents. If not of the whole, they are those of the first parts.
use Rattle.std.specs.Prelude.{◌≡◌, ◌⊎◌, ℕ, Bool, true, false, List, [], ◌∷◌, ◌++◌, Some, None, option_map, string_bytes}
use Rattle.std.specs.declared.option.Option.{Option}
use Rattle.mezdruk_files.specs.declared.document.NamedDocument.{NamedDocument}
use Rattle.mezdruk_files.specs.declared.job.InputForm.{InputForm}
use Rattle.mezdruk_files.specs.declared.job.InputForm.TheVariants.{One, Lines, Stream}
use Rattle.mezdruk_files.specs.Outcomes.{Task, PartOutcome, HasPartOutcome, LineOutcome, IsUnread, PartsHave}
use Rattle.mezdruk_files.specs.Parts.{whole_part, line_parts, lines_of}
use Rattle.mezdruk_files.specs.Streams.{ValuesHave}

-- the bytes of a document, if they could be read
abbrev pub document_bytes : NamedDocument → Option (List ℕ)
document_bytes d = option_map (λ v. v.items) d.bytes

abbrev pub BytesHave : Bool → Task → List ℕ → Option (List ℕ) → InputForm → List PartOutcome → Type 0
BytesHave whole task name None form outcomes = PartsHave whole IsUnread (whole_part name [] ∷ []) outcomes
BytesHave whole task name (Some b) One outcomes = PartsHave whole (HasPartOutcome task) (whole_part name b ∷ []) outcomes
BytesHave whole task name (Some b) Lines outcomes = PartsHave whole (LineOutcome task) (line_parts name 0 (lines_of b)) outcomes
BytesHave whole task name (Some b) Stream outcomes = ValuesHave whole task name b outcomes

-- a document has these outcomes
abbrev pub DocumentHas : Bool → Task → NamedDocument → List PartOutcome → Type 0
DocumentHas whole task d outcomes = BytesHave whole task (string_bytes d.name) (document_bytes d) task.form outcomes

-- the documents have these outcomes, one after another
abbrev pub DocumentsHave : Bool → Task → List NamedDocument → List PartOutcome → Type 0
DocumentsHave whole task [] outcomes = outcomes ≡ []
DocumentsHave true task (d ∷ ds) outcomes = (first : List PartOutcome) × (later : List PartOutcome) × DocumentHas true task d first × DocumentsHave true task ds later × (outcomes ≡ first ++ later)
DocumentsHave false task (d ∷ ds) outcomes =
    DocumentHas false task d outcomes ⊎ ((first : List PartOutcome) × (later : List PartOutcome) × DocumentHas true task d first × DocumentsHave false task ds later × (outcomes ≡ first ++ later))
