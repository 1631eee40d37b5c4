-- What a pointer references in a text.
use Rattle.std.specs.Prelude.{◌≡◌, ℕ, List, Option, Some, None}
use Rattle.std.specs.Result.{result_ok}
use Rattle.json_grammar.specs.Tree.{Tree}
use Rattle.json_command.specs.Input.{IsInput}
use Rattle.json_patch.specs.Errors.{no_memory_in_patch}
use Rattle.json_patch.specs.Pointer.{ReferenceToken, pointer_of, value_at_pointer}
use Rattle.json_patch.specs.declared.error.PatchCode.{PatchCode}
use Rattle.json_patch.specs.declared.error.PatchCode.TheVariants.{NoMemory, BadPointer, NotFound}
use Rattle.json_io.specs.Errors.{no_memory as no_memory_for_text}
use Rattle.json_io.specs.Utf8.{Utf8Cause}
use Rattle.mezdruk_c.specs.declared.failure.Failure.{Failure}
use Rattle.mezdruk_c.specs.declared.failure.Failure.TheVariants.{Options as bad_options, Argument, Text, Patch, NoMergePatch}
use Rattle.mezdruk_c.specs.declared.options.Options.{Options}
use Rattle.mezdruk_c.specs.Asked.{AreOptions, rules_of_options, text_by_options}
use Rattle.mezdruk_c.specs.Texts.{ReadingTextFails}

-- the pointer references this part of a tree (RFC 6901)
pub record IsPointed (tree : Tree) (pointer : List ℕ) (part : Tree) : Type 0 where
  pub tokens : List ReferenceToken
  pub parsed : pointer_of pointer ≡ Some tokens
  pub found : result_ok (value_at_pointer tokens tree) ≡ Some part

-- the pointer references nothing in a tree
pub record PointsNowhere (tree : Tree) (pointer : List ℕ) : Type 0 where
  pub tokens : List ReferenceToken
  pub parsed : pointer_of pointer ≡ Some tokens
  pub found : result_ok (value_at_pointer tokens tree) ≡ None

-- why a pointer references nothing: memory ran out, it is none, or there is no such value; no operation is named
abbrev pub PatchCodeFails : Tree → List ℕ → PatchCode → Option ℕ → Type 0
PatchCodeFails tree pointer NoMemory None = Unit {0}
PatchCodeFails tree pointer BadPointer None = pointer_of pointer ≡ None
PatchCodeFails tree pointer NotFound None = PointsNowhere tree pointer
PatchCodeFails tree pointer code op = ⊥

abbrev pub PointingFails : Tree → List ℕ → Failure → Type 0
PointingFails tree pointer (Text e) = e ≡ no_memory_for_text
PointingFails tree pointer (Patch e) = PatchCodeFails tree pointer e.code e.op
PointingFails tree pointer failure = ⊥

-- the output is the text of the part of the tree that the pointer references
pub record GetsText (o : Options) (text pointer output : List ℕ) : Type 0 where
  pub tree : Tree
  pub input : IsInput (rules_of_options o) text tree
  pub part : Tree
  pub pointed : IsPointed tree pointer part
  pub is : text_by_options o part ≡ Some output

-- the text was read, and the pointer references nothing in its tree
pub record FailsInTree (o : Options) (text pointer : List ℕ) (code : PatchCode) (op : Option ℕ) : Type 0 where
  pub tree : Tree
  pub input : IsInput (rules_of_options o) text tree
  pub why : PatchCodeFails tree pointer code op

-- why there is no such part: one row for each kind of failure
abbrev pub GetFails : Options → List ℕ → List ℕ → Failure → Type 0
GetFails o text pointer bad_options = ¬ (AreOptions o)
GetFails o text pointer (Argument e) = Utf8Cause pointer e.code e.place
GetFails o text pointer (Text e) = ReadingTextFails (rules_of_options o) text e.code e.place
GetFails o text pointer (Patch e) = FailsInTree o text pointer e.code e.op
GetFails o text pointer NoMergePatch = ⊥
