use Rattle.json_number.proofs.Floats.{nearest_is}
use Rattle.json_number.proofs.laws.float_is_nearest.Goals as goal

pub returns : goal.returns
returns c = nearest_is
