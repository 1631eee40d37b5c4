use Rattle.std.proofs.Common.{arith}
use Rattle.json_text.proofs.HexEscapes.{high_at}
use Rattle.json_text.proofs.escape.is_high_half.Goals as goal

pub returns : goal.returns
returns c = λ _. high_at c.args.bytes.now c.args.at c.code_unit_after-unit.result (omega arith) (c.code_unit_after-unit.ensures (omega arith)) (omega arith) (omega arith)
