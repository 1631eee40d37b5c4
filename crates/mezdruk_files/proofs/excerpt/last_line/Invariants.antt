use Rattle.std.proofs.Common.{◌≡◌, ◌+◌, ◌≤◌, ◌==◌, not, length, take}
use Rattle.std.specs.List.{suffix_len}
use Rattle.mezdruk_files.proofs.excerpt.last_line.Given as goal

abbrev pub invariant-back : goal.invariant-back
invariant-back l =
    (l.start ≤ length l.bytes)
    × (l.start + suffix_len (λ x. not (x == 10)) l.bytes ≡ length l.bytes + suffix_len (λ x. not (x == 10)) (take l.start l.bytes))

abbrev pub decreases-back : goal.decreases-back
decreases-back l = l.start
