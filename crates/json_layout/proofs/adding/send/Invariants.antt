use Rattle.std.proofs.Common.{◌-◌, length}
use Rattle.json_layout.proofs.Sending.{HasSent}
use Rattle.json_layout.proofs.adding.send.Given as goal

abbrev pub invariant-rest : goal.invariant-rest
invariant-rest g l = HasSent (g.W.Sink.state l.fn.sink) (g.W.Sink.state l.sink) l.bytes l.fn.sent l.sent

abbrev pub decreases-rest : goal.decreases-rest
decreases-rest g l = length l.bytes - l.sent
