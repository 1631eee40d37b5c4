use Rattle.std.proofs.Common.{arith, inr}
use Rattle.json_text.proofs.HexEscapes.{unit_to}
use Rattle.json_text.proofs.escape.is_unit.Goals as goal

pub returns : goal.returns
returns c = λ lossy _. unit_to lossy c.args.bytes.now c.args.at c.code_unit_after-unit.result c.requires (omega arith) (c.code_unit_after-unit.ensures (omega arith)) (inr (omega arith))
