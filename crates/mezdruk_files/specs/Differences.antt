-- The patch from one tree to another, and how two trees compare.
use Rattle.std.specs.Prelude.{ℕ, Bool, true, false, cond, List, [], ◌∷◌, ◌++◌, Option, Some, None}
use Rattle.json_grammar.specs.Tree.{Tree}
use Rattle.json_layout.specs.Styles.{printed}
use Rattle.json_layout.specs.declared.style.Style.{Style}
use Rattle.json_diff.specs.DiffDocument.{patch_between}
use Rattle.json_diff.specs.MergeDiff.{merge_patch_between}
use Rattle.mezdruk_files.specs.declared.difference.Comparison.{Comparison}
use Rattle.mezdruk_files.specs.declared.difference.Comparison.TheVariants.{Same, Differ, NoMergePatch}
use Rattle.mezdruk_files.specs.declared.difference.PatchForm.{PatchForm}
use Rattle.mezdruk_files.specs.declared.difference.PatchForm.TheVariants.{JsonPatch, MergePatch}

-- the JSON Patch (RFC 6902), or the JSON Merge Patch (RFC 7396) if there is one
abbrev pub patch_in_form : PatchForm → Tree → Tree → Option Tree
patch_in_form JsonPatch from to = Some (patch_between from to)
patch_in_form MergePatch from to = merge_patch_between from to

-- the line of a patch; nothing if there is none
abbrev pub patch_line : Style → Option Tree → List ℕ
patch_line style None = []
patch_line style (Some patch) = printed style patch ++ 10 ∷ []

-- how two trees compare that are the same or not, if this is the patch between them
abbrev pub comparison_of : Bool → Option Tree → Comparison
comparison_of are_same None = NoMergePatch
comparison_of are_same (Some patch) = cond are_same Same Differ
