use Rattle.json_layout.proofs.Sending.{held_none}
use Rattle.json_layout.proofs.buffered.BufferedWriter.with_buffer.Goals as goal

pub returns : goal.returns
returns g c = record { starts = held_none _ }
