use Rattle.std.proofs.Common.{refl}
use Rattle.json_text.proofs.Tables.{unit_spelled}
use Rattle.json_text.proofs.escape.code_unit_after.Goals as goal

pub returns : goal.returns
returns c = λ l. unit_spelled c.args.bytes.now c.args.at _ _ _ _ _ c.hex_value-first.ensures.value c.hex_value-second.ensures.value c.hex_value-third.ensures.value c.hex_value-fourth.ensures.value refl l
