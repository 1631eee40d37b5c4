use Rattle.json_stream.proofs.Origins.{reported_end}
use Rattle.json_stream.proofs.laws.end_reported_in_input.Goals as goal

pub returns : goal.returns
returns c b r lossy i = reported_end b r
