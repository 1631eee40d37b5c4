use Rattle.std.proofs.Common.{map}
use Rattle.json_value.specs.Seen.{seen}
use Rattle.json_diff.proofs.DiffParts.{Back}
use Rattle.json_diff.proofs.between.common_back.Given as goal

-- the last elements so far are the same
abbrev pub invariant-loop-n : goal.invariant-loop-n
invariant-loop-n l = Back (map seen l.from) (map seen l.to) l.n
