use Rattle.json_write.proofs.Parts.{writes_token}
use Rattle.json_write.proofs.event_calls.give_literal.Goals as goal

pub returns : goal.returns
returns g c = writes_token c.requires.number c.raw_number.ensures
