use Rattle.std.proofs.Common.{◌≡◌, take}
use Rattle.json_patch.specs.KeyIndex.{AreStarts}
use Rattle.json_patch.proofs.key_index.KeyIndex.new.Given as goal

-- the members before i are in the index
abbrev pub invariant-members : goal.invariant-members
invariant-members l = AreStarts l.index.starts.items 0 (take l.i l.pairs) × (l.index.removed ≡ 0)
