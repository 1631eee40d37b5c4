use Rattle.std.proofs.Common.{◌-◌, ◌≤◌, length, take}
use Rattle.json_io.proofs.Progress.{HasPut}
use Rattle.json_io.proofs.transfer.put_rest.Given as goal

abbrev pub invariant-drain : goal.invariant-drain
invariant-drain g l =
    HasPut (g.K.Sink.state l.fn.sink) (g.K.Sink.state l.sink) (take l.at l.piece)
    × (l.at ≤ length l.piece)

abbrev pub decreases-drain : goal.decreases-drain
decreases-drain g l = length l.piece - l.at
