use Rattle.std.proofs.lemmas.Fmt.{decimal_digit}
use Rattle.json_layout.proofs.Decimals.{two_digits}
use Rattle.json_layout.proofs.escape.add_pair.Goals as goal

pub returns-then-number-lt10 : goal.returns-then-number-lt10
returns-then-number-lt10 g c = rw (decimal_digit c.args.number c.if-number-lt10.true, ← c.digit.ensures) c.add.ensures

pub returns : goal.returns
returns g c = rw (two_digits c.args.number c.if-number-lt10.false c.requires, ← c.digit-2.ensures, ← c.digit-3.ensures) c.add-2.ensures
