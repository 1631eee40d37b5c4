use Rattle.json_write.proofs.Parts.{writes_token}
use Rattle.json_write.proofs.event_calls.write_null.Goals as goal

pub returns : goal.returns
returns g c = writes_token tt c.null.ensures
