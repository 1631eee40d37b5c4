use Rattle.std.proofs.Common.{◌≡◌, ◌++◌, map, drop}
use Rattle.json_value.specs.Denotes.{tree_of}
use Rattle.json_value.specs.Seen.{seen}
use Rattle.mezdruk_files.proofs.query.values_of.Given as goal

-- the values so far, and those of the views left
abbrev pub invariant-loop-view : goal.invariant-loop-view
invariant-loop-view l = map tree_of l.values.items ++ map seen (drop l.view-index l.views) ≡ map seen l.views
