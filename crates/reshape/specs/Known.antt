-- What the known bytes of a source are: a text to which the edits apply, or one to which they do
-- not apply.
use Rattle.std.specs.Prelude.{◌≡◌, ◌⊎◌, ℕ, List, Result, Ok, Err, IsErrOf}
use Rattle.json_io.specs.declared.error.Error.{Error}
use Rattle.json_io.specs.declared.error.Place.TheVariants.{Edit as in_edit}
use Rattle.json_io.specs.Errors.{no_memory}
use Rattle.json_io.specs.Outside.{SourceState, SinkState, Rose}
use Rattle.json_grammar.specs.Tree.{Tree}
use Rattle.json_grammar.specs.Rules.{Rules}
use Rattle.json_model.specs.Edit.{Edit, edited, EditRefusal}
use Rattle.json_command.specs.Reading.{KnownInput}
use Rattle.json_command.specs.Statuses.{code_of_refusal}

-- the known bytes are a text that fits the rules, to which the edits apply, and nothing failed
pub record KnownFit (rules : Rules) (es : List Edit) (source source' : SourceState) (sink sink' : SinkState) : Type 0 where
  pub tree : Tree
  pub input : KnownInput rules source source' tree
  pub changed : Tree
  pub applies : edited es tree ≡ Ok changed
  pub written : ¬ (Rose sink.faults sink'.faults)

-- the known bytes are a text that fits the rules, the edit of this number is the first that does not apply to it, and no read failed
pub record KnownUnfit (rules : Rules) (es : List Edit) (source source' : SourceState) (number : ℕ) (why : EditRefusal) : Type 0 where
  pub tree : Tree
  pub input : KnownInput rules source source' tree
  pub refused : edited es tree ≡ Err (number, why)

-- the refusal of the edit of this number
abbrev pub edit_refused : ℕ → EditRefusal → Error
edit_refused number why = record { code = code_of_refusal why; place = in_edit number }

-- the edit that does not apply to the known bytes is returned as the error, or memory runs out
abbrev pub ReturnsUnfit : {A : Type 0} → Rules → List Edit → SourceState → SourceState → Result A Error → Type 0
ReturnsUnfit rules es source source' result =
    (number : ℕ) (why : EditRefusal) → KnownUnfit rules es source source' number why → IsErrOf result (edit_refused number why) ⊎ IsErrOf result no_memory
