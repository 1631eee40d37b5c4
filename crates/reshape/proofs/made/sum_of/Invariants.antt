use Rattle.std.proofs.Common.{◌≡◌, ◌≤◌, ◌*◌, sum, take}
use Rattle.reshape.proofs.made.sum_of.Given as goal

abbrev pub invariant-bytes : goal.invariant-bytes
invariant-bytes l = record { is : l.sum ≡ sum (take l.byte-index l.bytes); few : l.sum ≤ l.byte-index * 255 }
