use Rattle.std.proofs.Common.{◌≡◌, drop, map}
use Rattle.mezdruk_files.specs.Overlays.{merged_in_turn}
use Rattle.json_value.specs.Denotes.{tree_of}
use Rattle.mezdruk_files.proofs.overlay.merge_all.Given as goal

-- what the patches from i on make of the tree so far is what all of them make of the first
abbrev pub invariant-patches : goal.invariant-patches
invariant-patches l = merged_in_turn (tree_of l.value) (map tree_of (drop l.i l.patches)) ≡ merged_in_turn (tree_of l.fn.value) (map tree_of l.patches)
