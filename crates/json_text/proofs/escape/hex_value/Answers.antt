use Rattle.std.proofs.Common.{◌≤◌, refl, sym, subst, arith}
use Rattle.json_text.specs.declared.escape.TheConstants.{HEX_VALUES}
use Rattle.json_text.specs.Escapes.{hex_or_more}
use Rattle.json_text.proofs.Tables.{from_table, hex_most}
use Rattle.json_text.proofs.escape.hex_value.Goals as goal

pub returns-clause-value : goal.returns-clause-value
returns-clause-value c = from_table HEX_VALUES hex_or_more c.args.byte (omega arith) refl

pub returns-clause-most : goal.returns-clause-most
returns-clause-most c = subst (λ n. n ≤ 65536) (sym (from_table HEX_VALUES hex_or_more c.args.byte (omega arith) refl)) (hex_most c.args.byte)
