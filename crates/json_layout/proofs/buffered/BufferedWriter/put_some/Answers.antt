use Rattle.std.proofs.Common.{[], Ok}
use Rattle.json_layout.proofs.Pieces.{Adds-then}
use Rattle.json_layout.proofs.buffered.BufferedWriter.put_some.Goals as goal

pub returns-clause-put : goal.returns-clause-put
returns-clause-put g c = Adds-then _ _ _ [] _ _ (Ok tt) c.in-Ok.ensures.adds c.hold_blocks.ensures.holds
