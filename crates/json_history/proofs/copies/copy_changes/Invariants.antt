use Rattle.std.proofs.Common.{◌≡◌, take, map}
use Rattle.json_history.specs.ChangeTrees.{tree_change_of}
use Rattle.json_history.proofs.copies.copy_changes.Given as goal

abbrev pub invariant-loop-change : goal.invariant-loop-change
invariant-loop-change l = map tree_change_of l.copies.items ≡ map tree_change_of (take l.change-index l.changes)
