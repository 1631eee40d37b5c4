-- What editing a text returns.
use Rattle.std.specs.Prelude.{◌≡◌, ◌⊎◌, ℕ, List, Some, Err, Ok}
use Rattle.json_grammar.specs.Tree.{Tree}
use Rattle.json_grammar.specs.Rules.{Rules}
use Rattle.json_command.specs.Input.{IsInput}
use Rattle.json_model.specs.Edit.{Edit, edited, EditRefusal, not_found, type_unmatched}
use Rattle.json_io.specs.declared.error.ErrorCode.{ErrorCode}
use Rattle.json_io.specs.declared.error.ErrorCode.TheVariants.{NoMemory, NotFound, TypeUnmatched}
use Rattle.json_data.specs.Calls.{TypedReadingFails}
use Rattle.json_data.specs.Reading.{read_list}
use Rattle.json_data.specs.ReadingValues.{read_edit}
use Rattle.json_io.specs.declared.error.Place.{Place}
use Rattle.json_io.specs.declared.error.Place.TheVariants.{Edit as in_edit}
use Rattle.reshape.specs.Words.{SpellsEdits}
use Rattle.mezdruk_c.specs.declared.failure.Failure.{Failure}
use Rattle.mezdruk_c.specs.declared.failure.Failure.TheVariants.{Options as bad_options, Argument, Text}
use Rattle.mezdruk_c.specs.declared.options.Options.{Options}
use Rattle.mezdruk_c.specs.Asked.{AreOptions, rules_of_options, text_by_options}
use Rattle.mezdruk_c.specs.Texts.{ReadingTextFails}

-- the text is one of a tree by the rules, all edits apply to it, and the output is what is printed of the edited tree
pub record EditedText (rules : Rules) (es : List Edit) (print : Tree → List ℕ) (text output : List ℕ) : Type 0 where
  pub tree : Tree
  pub input : IsInput rules text tree
  pub changed : Tree
  pub applied : edited es tree ≡ Ok changed
  pub is : output ≡ print changed

-- the text is one of a tree by the rules, and the edit of this number is the first that does not apply to it
pub record UnfitText (rules : Rules) (es : List Edit) (text : List ℕ) (number : ℕ) (why : EditRefusal) : Type 0 where
  pub tree : Tree
  pub input : IsInput rules text tree
  pub refused : edited es tree ≡ Err (number, why)

-- why a text is not edited: one row for each error
abbrev pub EditingFails : Rules → List Edit → List ℕ → ErrorCode → Place → Type 0
EditingFails rules es text NotFound (in_edit number) = UnfitText rules es text number not_found
EditingFails rules es text TypeUnmatched (in_edit number) = UnfitText rules es text number type_unmatched
EditingFails rules es text code place = ReadingTextFails rules text code place

-- the edits are spelled so, they apply to the tree of the text, and the output is the text of the edited tree in the layout of the options
pub record EditsText (o : Options) (text edits output : List ℕ) : Type 0 where
  pub es : List Edit
  pub spelled : SpellsEdits edits es
  pub tree : Tree
  pub input : IsInput (rules_of_options o) text tree
  pub changed : Tree
  pub applied : edited es tree ≡ Ok changed
  pub is : text_by_options o changed ≡ Some output

-- the edits are spelled so, and the text is not edited
pub record FailsOnText (o : Options) (text edits : List ℕ) (code : ErrorCode) (place : Place) : Type 0 where
  pub es : List Edit
  pub spelled : SpellsEdits edits es
  pub why : EditingFails (rules_of_options o) es text code place

-- why no edits are read, with the place: memory ran out, or a list of edits is not read of the bytes, and then they spell none
pub record EditsNotRead (edits : List ℕ) (code : ErrorCode) (place : Place) : Type 0 where
  pub why : TypedReadingFails 254 (read_list read_edit) edits code place
  pub none : (code ≡ NoMemory) ⊎ ((es : List Edit) → ¬ (SpellsEdits edits es))

-- why editing fails: one row for each kind of failure
abbrev pub EditFails : Options → List ℕ → List ℕ → Failure → Type 0
EditFails o text edits bad_options = ¬ (AreOptions o)
EditFails o text edits (Argument e) = EditsNotRead edits e.code e.place
EditFails o text edits (Text e) = FailsOnText o text edits e.code e.place
EditFails o text edits failure = ⊥
