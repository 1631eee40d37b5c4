use Rattle.std.proofs.Common.{refl}
use Rattle.json_layout.proofs.buffered.BufferedWriter.into_parts.Goals as goal

pub returns : goal.returns
returns g c = (_, refl)
