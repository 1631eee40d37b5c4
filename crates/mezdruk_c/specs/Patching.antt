-- What patching a text returns.
use Rattle.std.specs.Prelude.{◌≡◌, ◌⊎◌, ℕ, List, Some, Ok}
use Rattle.json_grammar.specs.Tree.{Tree}
use Rattle.json_command.specs.Input.{IsInput}
use Rattle.json_text.specs.Ruled.{usual_rules}
use Rattle.json_patch.specs.Errors.{PatchFails as FailsToPatch}
use Rattle.json_patch.specs.Merge.{merge_patched}
use Rattle.json_patch.specs.Patch.{patched}
use Rattle.json_patch.specs.declared.error.PatchError.{PatchError}
use Rattle.json_patch.specs.Errors.{no_memory_in_patch}
use Rattle.mezdruk_c.specs.declared.failure.Failure.{Failure}
use Rattle.mezdruk_c.specs.declared.failure.Failure.TheVariants.{Options as bad_options, Argument, Text, Patch, NoMergePatch}
use Rattle.mezdruk_c.specs.declared.options.Options.{Options}
use Rattle.mezdruk_c.specs.Asked.{AreOptions, rules_of_options, text_by_options}
use Rattle.mezdruk_c.specs.Texts.{ReadingTextFails}

-- the texts are of these trees: the one to be changed by the rules of the options, and the patch by the usual rules
pub record ReadsBoth (o : Options) (text patch : List ℕ) (tree by : Tree) : Type 0 where
  pub input : IsInput (rules_of_options o) text tree
  pub patch_input : IsInput usual_rules patch by

-- the output is the text of what the patch makes of the tree (RFC 6902)
pub record PatchesText (o : Options) (text patch output : List ℕ) : Type 0 where
  pub tree : Tree
  pub by : Tree
  pub reads : ReadsBoth o text patch tree by
  pub changed : Tree
  pub applied : patched tree by ≡ Ok changed
  pub is : text_by_options o changed ≡ Some output

-- the output is the text of what the merge patch makes of the tree (RFC 7396)
pub record MergesText (o : Options) (text patch output : List ℕ) : Type 0 where
  pub tree : Tree
  pub by : Tree
  pub reads : ReadsBoth o text patch tree by
  pub is : text_by_options o (merge_patched tree by) ≡ Some output

-- both texts were read, and the patch fails on the tree so
pub record FailsOnTree (o : Options) (text patch : List ℕ) (error : PatchError) : Type 0 where
  pub tree : Tree
  pub by : Tree
  pub reads : ReadsBoth o text patch tree by
  pub why : FailsToPatch (patched tree by) error.code error.op

-- why patching fails: one row for each kind of failure
abbrev pub PatchCallFails : Options → List ℕ → List ℕ → Failure → Type 0
PatchCallFails o text patch bad_options = ¬ (AreOptions o)
PatchCallFails o text patch (Argument e) = ReadingTextFails usual_rules patch e.code e.place
PatchCallFails o text patch (Text e) = ReadingTextFails (rules_of_options o) text e.code e.place
PatchCallFails o text patch (Patch e) = FailsOnTree o text patch e
PatchCallFails o text patch NoMergePatch = ⊥

-- why merging fails: one row for each kind of failure
abbrev pub MergeFails : Options → List ℕ → List ℕ → Failure → Type 0
MergeFails o text patch bad_options = ¬ (AreOptions o)
MergeFails o text patch (Argument e) = ReadingTextFails usual_rules patch e.code e.place
MergeFails o text patch (Text e) = ReadingTextFails (rules_of_options o) text e.code e.place
MergeFails o text patch (Patch e) = e ≡ no_memory_in_patch
MergeFails o text patch NoMergePatch = ⊥
