use Rattle.std.proofs.Common.{refl, arith}
use Rattle.json_text.specs.declared.escape.TheConstants.{SHORT_ESCAPES}
use Rattle.json_text.specs.Escapes.{short_byte}
use Rattle.json_text.proofs.Tables.{from_table}
use Rattle.json_text.proofs.escape.short_escape.Goals as goal

pub returns : goal.returns
returns c = from_table SHORT_ESCAPES short_byte c.args.byte (omega arith) refl
