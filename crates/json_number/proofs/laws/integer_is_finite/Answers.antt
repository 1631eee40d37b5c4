use Rattle.json_number.proofs.Doubles.{value_finite}
use Rattle.json_number.proofs.laws.integer_is_finite.Goals as goal

pub returns : goal.returns
returns c = value_finite
