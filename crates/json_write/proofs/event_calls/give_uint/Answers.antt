use Rattle.std.proofs.Common.{arith}
use Rattle.json_write.proofs.Decimals.{unsigned_number}
use Rattle.json_write.proofs.Parts.{writes_token}
use Rattle.json_write.proofs.event_calls.give_uint.Goals as goal

pub returns : goal.returns
returns g c = writes_token (unsigned_number c.args.n (omega (arith, c.ranges.n))) c.uint.ensures
