-- Trees that are laid over one another.
use Rattle.std.specs.Prelude.{List, [], ◌∷◌}
use Rattle.json_grammar.specs.Tree.{Tree}
use Rattle.json_patch.specs.Merge.{merge_patched}

-- the tree under merge patches (RFC 7396), one after another
abbrev pub merged_in_turn : Tree → List Tree → Tree
merged_in_turn tree [] = tree
merged_in_turn tree (patch ∷ later) = merged_in_turn (merge_patched tree patch) later
