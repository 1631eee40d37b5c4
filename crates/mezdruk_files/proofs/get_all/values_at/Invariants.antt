use Rattle.json_value.specs.Seen.{seen}
use Rattle.mezdruk_files.proofs.ValuePaths.{IsSoFar}
use Rattle.mezdruk_files.proofs.get_all.values_at.Given as goal

abbrev pub invariant-paths : goal.invariant-paths
invariant-paths l = IsSoFar l.paths (seen l.root) l.values.items l.i
