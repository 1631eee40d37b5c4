use Rattle.json_value.proofs.Integers.{no_literal_read}
use Rattle.json_value.proofs.view.value_literal.Goals as goal

pub returns-in_default : goal.returns-in_default
returns-in_default c = no_literal_read c.args.value.now c.in_default.not-Raw
