use Rattle.std.proofs.Common.{[], Ok}
use Rattle.json_layout.proofs.Pieces.{Adds-first, Adds-then}
use Rattle.json_layout.proofs.buffered.BufferedWriter.put_lead.Goals as goal

pub returns-in-Err : goal.returns-in-Err
returns-in-Err g c = Adds-first _ _ [] _ _ c.in-Err.ensures.adds

pub returns : goal.returns
returns g c = Adds-then _ _ _ [] _ _ (Ok tt) c.in-Ok.ensures.adds c.hold_lead.ensures
