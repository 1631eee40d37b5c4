use Rattle.std.proofs.Common.{refl, arith}
use Rattle.std.specs.Char.{digit_value}
use Rattle.json_text.specs.declared.escape.TheConstants.{DIGIT_VALUES}
use Rattle.json_text.proofs.Tables.{from_table}
use Rattle.json_text.proofs.escape.digit_value.Goals as goal

pub returns : goal.returns
returns c = from_table DIGIT_VALUES digit_value c.args.byte (omega arith) refl
