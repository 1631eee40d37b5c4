-- The values of a document, one after another.
use Rattle.std.specs.Prelude.{◌≡◌, ◌⊎◌, ℕ, ◌+◌, ◌-◌, ◌<◌, ◌≤◌, ⊤, Bool, false, List, [], ◌∷◌, length, drop, None, Some, IsUtf8}
use Rattle.std.specs.declared.option.Option.{Option}
use Rattle.std.specs.Str.{IsCharBoundary}
use Rattle.json_grammar.specs.Fault.{reads}
use Rattle.json_grammar.specs.Grammar.{ws}
use Rattle.json_grammar.specs.Tree.{Tree, depth}
use Rattle.json_io.specs.declared.error.Error.{Error}
use Rattle.json_io.specs.declared.error.ErrorCode.{ErrorCode}
use Rattle.json_io.specs.declared.error.ErrorCode.TheVariants.{NoMemory, TooLarge}
use Rattle.json_io.specs.declared.error.Place.{Place}
use Rattle.json_io.specs.declared.error.Place.TheVariants.{None as nowhere}
use Rattle.json_text.specs.Faults.{ValueFaultFrom}
use Rattle.json_io.specs.Utf8.{Utf8Cause}
use Rattle.json_command.specs.Input.{max_bytes}
use Rattle.mezdruk_files.specs.declared.document_error.DocumentError.TheVariants.{Input, Change}
use Rattle.mezdruk_files.specs.Outcomes.{Task, PartOutcome, Printed, Refused, TreeOutcome, PartsHave}
use Rattle.mezdruk_files.specs.declared.value_stream.StreamPlace.{StreamPlace}
use Rattle.mezdruk_files.specs.Parts.{DocumentPart, whole_part, value_part}
use Rattle.mezdruk_files.specs.Reports.{IsReport}

-- after whitespace from i on follows a value of the tree, which ends at j
pub record ReadsAt (b : List ℕ) (i : ℕ) (tree : Tree) (j : ℕ) : Type 0 where
  pub value : reads false (drop i b) tree (j - i)
  pub levels : depth tree ≤ 254
  pub forward : i < j
  pub within : j ≤ length b

-- memory ran out, or what follows i has this fault as a value
abbrev pub ValueFails : List ℕ → ℕ → ErrorCode → Place → Type 0
ValueFails b i NoMemory nowhere = ⊤
ValueFails b i code place = ValueFaultFrom false 254 i b code place

-- from i on, where n values precede, the values have these outcomes; if not of the whole, the first
-- of them
pub data StreamHas (task : Task) (name b : List ℕ) (whole : Bool) : ℕ → ℕ → List PartOutcome → Type 0 where
  ends : {i n : ℕ} → ws (drop i b) → StreamHas task name b whole i n []
  stops : {i n : ℕ} → whole ≡ false → StreamHas task name b whole i n []
  fails : {i n : ℕ} (e : Error) (report : List ℕ) → ¬ (ws (drop i b)) → ValueFaultFrom false 254 i b e.code e.place → IsReport (whole_part name b) (Input e) report → StreamHas task name b whole i n (Refused (Input e) report ∷ [])
  more : {i n : ℕ} (j : ℕ) (tree : Tree) (outcome : PartOutcome) (later : List PartOutcome) → ReadsAt b i tree j → TreeOutcome task (value_part name b n) tree outcome → StreamHas task name b whole j (n + 1) later → StreamHas task name b whole i n (outcome ∷ later)

-- where a value is read: the name and the text of the document, the offset, and how many values
-- precede it
pub record ValuePlace : Type 0 where
  pub name : List ℕ
  pub text : List ℕ
  pub offset : ℕ
  pub number : ℕ

abbrev pub stream_value_place : StreamPlace → ValuePlace
stream_value_place p = record { name = p.name.now; text = p.text.now; offset = p.offset; number = p.number }

-- the outcome of what follows a place: of a value that ends at j, or the fault if none can be read
abbrev pub ValueHas : Task → ValuePlace → Option ℕ → List PartOutcome → Type 0
ValueHas task p None outcomes = (e : Error) × (report : List ℕ) × ValueFaultFrom false 254 p.offset p.text e.code e.place × IsReport (whole_part p.name p.text) (Input e) report × (outcomes ≡ Refused (Input e) report ∷ [])
ValueHas task p (Some j) outcomes = (tree : Tree) × (outcome : PartOutcome) × ReadsAt p.text p.offset tree j × TreeOutcome task (value_part p.name p.text p.number) tree outcome × (outcomes ≡ outcome ∷ [])

-- why the bytes are no text: they are too many, or not UTF-8
abbrev pub TextFault : List ℕ → ErrorCode → Place → Type 0
TextFault b TooLarge nowhere = max_bytes < length b
TextFault b code place = Utf8Cause b code place

-- the outcome of bytes that are no text
abbrev pub OutcomeIsNoText : DocumentPart → PartOutcome → Type 0
OutcomeIsNoText part (Refused (Input e) report) = TextFault part.bytes e.code e.place × IsReport part (Input e) report
OutcomeIsNoText part _ = ⊥

-- the outcomes of the values of bytes
abbrev pub ValuesHave : Bool → Task → List ℕ → List ℕ → List PartOutcome → Type 0
ValuesHave whole task name b outcomes = ((length b ≤ max_bytes) × IsUtf8 b × StreamHas task name b whole 0 0 outcomes) ⊎ PartsHave whole OutcomeIsNoText (whole_part name b ∷ []) outcomes

-- the place after a value
pub record IsNextPlace (b : List ℕ) (i j : ℕ) : Type 0 where
  pub boundary : IsCharBoundary b j
  pub forward : i < j
  pub within : j ≤ length b
