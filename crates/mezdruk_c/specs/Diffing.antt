-- What the patch between two texts is.
use Rattle.std.specs.Prelude.{◌≡◌, ◌↔◌, ℕ, List, Some, None, Ok, true}
use Rattle.json_grammar.specs.Rules.{Rules}
use Rattle.json_grammar.specs.Tree.{Tree, list, no_trees}
use Rattle.json_command.specs.Input.{IsInput}
use Rattle.json_diff.specs.DiffDocument.{patch_between}
use Rattle.json_diff.specs.MergeDiff.{merge_patch_between}
use Rattle.json_model.specs.Same.{same}
use Rattle.json_patch.specs.Merge.{merge_patched}
use Rattle.json_patch.specs.Patch.{patched}
use Rattle.mezdruk_c.specs.declared.failure.Failure.{Failure}
use Rattle.mezdruk_c.specs.declared.failure.Failure.TheVariants.{Options as bad_options, Argument, Text, NoMergePatch}
use Rattle.mezdruk_c.specs.declared.options.Options.{Options}
use Rattle.mezdruk_c.specs.Asked.{AreOptions, rules_of_options, text_by_options}
use Rattle.mezdruk_c.specs.Texts.{ReadingTextFails}

-- both texts are of these trees, by the same rules
pub record ReadsTwo (rules : Rules) (text target : List ℕ) (from to : Tree) : Type 0 where
  pub input : IsInput rules text from
  pub target_input : IsInput rules target to

-- The output is the text of the patch (RFC 6902) between the trees. Applied to the first it makes a tree that is the same as the second, and it is empty exactly if the two are the same.
pub record DiffsTexts (o : Options) (text target output : List ℕ) : Type 0 where
  pub from : Tree
  pub to : Tree
  pub reads : ReadsTwo (rules_of_options o) text target from to
  pub is : text_by_options o (patch_between from to) ≡ Some output
  pub changed : Tree
  pub applied : patched from (patch_between from to) ≡ Ok changed
  pub leads : same changed to ≡ true
  pub empty : (patch_between from to ≡ list no_trees) ↔ (same from to ≡ true)

-- The output is the text of the merge patch (RFC 7396) between the trees. It makes of the first a tree that is the same as the second.
pub record MergeDiffsTexts (o : Options) (text target output : List ℕ) : Type 0 where
  pub from : Tree
  pub to : Tree
  pub reads : ReadsTwo (rules_of_options o) text target from to
  pub patch : Tree
  pub found : merge_patch_between from to ≡ Some patch
  pub is : text_by_options o patch ≡ Some output
  pub leads : same (merge_patched from patch) to ≡ true

-- both texts were read, and there is no merge patch between their trees
pub record LacksMergePatch (o : Options) (text target : List ℕ) : Type 0 where
  pub from : Tree
  pub to : Tree
  pub reads : ReadsTwo (rules_of_options o) text target from to
  pub none : merge_patch_between from to ≡ None

-- one of the texts is not read
abbrev pub ReadingTwoFails : Rules → List ℕ → List ℕ → Failure → Type 0
ReadingTwoFails rules text target (Argument e) = ReadingTextFails rules target e.code e.place
ReadingTwoFails rules text target (Text e) = ReadingTextFails rules text e.code e.place
ReadingTwoFails rules text target failure = ⊥

-- why there is no patch: one row for each kind of failure
abbrev pub DiffFails : Options → List ℕ → List ℕ → Failure → Type 0
DiffFails o text target bad_options = ¬ (AreOptions o)
DiffFails o text target failure = ReadingTwoFails (rules_of_options o) text target failure

-- why there is no merge patch
abbrev pub MergeDiffFails : Options → List ℕ → List ℕ → Failure → Type 0
MergeDiffFails o text target NoMergePatch = LacksMergePatch o text target
MergeDiffFails o text target failure = DiffFails o text target failure
