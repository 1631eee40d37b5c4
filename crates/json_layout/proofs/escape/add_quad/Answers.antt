use Rattle.std.proofs.Common.{arith}
use Rattle.json_layout.proofs.Decimals.{three_digits, four_digits}
use Rattle.json_layout.proofs.escape.add_quad.Goals as goal

pub returns-then-hundreds-lt10 : goal.returns-then-hundreds-lt10
returns-then-hundreds-lt10 g c =
    rw (three_digits c.args.number c.requires.0 (omega (arith, c.if-hundreds-lt10.true)), ← c.digit.ensures, ← c.digit-then-hundreds-lt10.ensures, ← c.digit-last.ensures) c.add.ensures

pub returns : goal.returns
returns g c =
    rw (four_digits c.args.number (omega (arith, c.if-hundreds-lt10.false)) c.requires.1, ← c.digit-2.ensures, ← c.digit-3.ensures, ← c.digit-4.ensures, ← c.digit-last.ensures) c.add-2.ensures
