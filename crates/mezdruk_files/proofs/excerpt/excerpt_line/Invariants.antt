use Rattle.std.proofs.Common.{◌≡◌, ◌+◌, ◌-◌, ◌≤◌, ◌==◌, length, drop}
use Rattle.std.specs.List.{position_or_len}
use Rattle.mezdruk_files.proofs.excerpt.excerpt_line.Given as goal

abbrev pub invariant-forward : goal.invariant-forward
invariant-forward l = (l.end ≤ length l.bytes) × (l.end + position_or_len (λ x. x == 10) (drop l.end l.bytes) ≡ position_or_len (λ x. x == 10) l.bytes)

abbrev pub decreases-forward : goal.decreases-forward
decreases-forward l = length l.bytes - l.end
