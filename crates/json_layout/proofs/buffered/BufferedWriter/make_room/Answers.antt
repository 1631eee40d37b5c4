use Rattle.json_layout.proofs.Pieces.{Adds-nil}
use Rattle.json_layout.proofs.buffered.BufferedWriter.make_room.Goals as goal

pub returns-clause-adds : goal.returns-clause-adds
returns-clause-adds g c = Adds-nil _
