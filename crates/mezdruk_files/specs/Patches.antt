-- The trees of patches and merge patches.
use Rattle.json_grammar.specs.Tree.{Tree}
use Rattle.json_value.specs.Seen.{seen}
use Rattle.mezdruk_files.specs.declared.patches.ApplyPatch.{ApplyPatch}
use Rattle.mezdruk_files.specs.declared.patches.ApplyMerge.{ApplyMerge}

abbrev pub patch_tree : ApplyPatch → Tree
patch_tree change = seen change.patch

abbrev pub merge_tree : ApplyMerge → Tree
merge_tree change = seen change.patch
