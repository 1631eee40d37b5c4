use Rattle.std.proofs.Common.{sym, ◌∙◌, arith}
use Rattle.json_number.proofs.Integers.{long_is_none}
use Rattle.json_number.proofs.Widths.{narrows}
use Rattle.json_number.proofs.integer.integer_of.Goals as goal

pub returns-then-literal-gt-LONGEST : goal.returns-then-literal-gt-LONGEST
returns-then-literal-gt-LONGEST c = sym (long_is_none _ c.requires (omega arith))

pub returns : goal.returns
returns c = c.narrowed.ensures ∙ sym (narrows c.args.literal.now c.integer_literal.result c.integer_literal.ensures)
