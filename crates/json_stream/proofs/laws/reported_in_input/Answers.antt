use Rattle.json_stream.proofs.Origins.{reported_place}
use Rattle.json_stream.proofs.laws.reported_in_input.Goals as goal

pub returns : goal.returns
returns c b r lossy i k = reported_place b r k
