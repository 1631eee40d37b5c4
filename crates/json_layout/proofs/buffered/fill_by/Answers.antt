use Rattle.json_layout.proofs.Overlapping.{stored}
use Rattle.json_layout.proofs.buffered.fill_by.Goals as goal

pub returns : goal.returns
returns g c = stored c.args.buffer.now c.args.piece.now c.args.at g.row.N c.requires.room c.requires.long c.requires.short
