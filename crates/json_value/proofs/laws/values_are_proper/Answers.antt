use Rattle.json_value.proofs.ProperValues.{value_proper}
use Rattle.json_value.proofs.laws.values_are_proper.Goals as goal

pub returns : goal.returns
returns c = value_proper c.args._value.now
