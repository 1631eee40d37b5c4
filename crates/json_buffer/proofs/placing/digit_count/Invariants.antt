use Rattle.std.proofs.Common.{◌≡◌, ◌+◌, ◌≤◌, length}
use Rattle.std.specs.Fmt.{decimal}
use Rattle.json_buffer.proofs.placing.digit_count.Given as goal

abbrev pub invariant-fours : goal.invariant-fours
invariant-fours l = (l.count + length (decimal l.left) ≡ length (decimal l.number)) × (l.left ≤ l.number)

abbrev pub decreases-fours : goal.decreases-fours
decreases-fours l = l.left
