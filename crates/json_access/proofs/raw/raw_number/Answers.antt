use Rattle.json_value.proofs.SeenNumbers.{literal_seen}
use Rattle.json_access.proofs.raw.raw_number.Goals as goal

pub from_literal-requires : goal.from_literal-requires
from_literal-requires c = literal_seen c.args.view _ c.in-Some-literal.ensures
