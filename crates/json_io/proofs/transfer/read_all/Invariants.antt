use Rattle.std.proofs.Common.{◌+◌, ◌-◌, ◌≤◌, take, vec_len}
use Rattle.json_io.specs.Transfer.{Gives}
use Rattle.json_io.proofs.transfer.read_all.Given as goal

abbrev pub invariant-fill : goal.invariant-fill
invariant-fill g l =
    Gives (g.S.Source.state l.fn.source) (g.S.Source.state l.source) (take l.filled l.bytes.items)
    × (l.filled ≤ vec_len l.bytes)
    × (l.filled ≤ l.limit + 1)

abbrev pub decreases-fill : goal.decreases-fill
decreases-fill g l = l.limit + 1 - l.filled
