use Rattle.std.proofs.Common.{sym, ap, length}
use Rattle.std.proofs.lemmas.Fmt.{decimal_digit}
use Rattle.json_layout.proofs.Decimals.{two_digits, three_digits, four_digits}
use Rattle.json_buffer.proofs.placing.few_digit_count.Goals as goal

pub returns-then-number-lt10 : goal.returns-then-number-lt10
returns-then-number-lt10 c = sym (ap length (decimal_digit c.args.number c.if-number-lt10.true))

pub returns-then-number-lt100 : goal.returns-then-number-lt100
returns-then-number-lt100 c = sym (ap length (two_digits c.args.number c.if-number-lt10.false c.if-number-lt100.true))

pub returns-then-number-lt1000 : goal.returns-then-number-lt1000
returns-then-number-lt1000 c = sym (ap length (three_digits c.args.number c.if-number-lt100.false c.if-number-lt1000.true))

pub returns-else-number-lt1000 : goal.returns-else-number-lt1000
returns-else-number-lt1000 c = sym (ap length (four_digits c.args.number c.if-number-lt1000.false c.requires))
