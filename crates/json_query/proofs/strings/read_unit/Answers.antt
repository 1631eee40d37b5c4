use Rattle.std.proofs.Common.{◌+◌, ◌*◌, ◌<◌, arith}
use Rattle.json_query.proofs.TextEscapes.{hex_small}
use Rattle.json_query.proofs.strings.read_unit.Goals as goal

pub returns-clause-value : goal.returns-clause-value
returns-clause-value c =
    let third : c.in_ok-third.third < 16 = hex_small c.in_ok-third.third c.args.text.now c.in_ok-third.rest.now c.in_ok-third.ensures in
    let fourth : c.in_ok-fourth.fourth < 16 = hex_small c.in_ok-fourth.fourth c.in_ok-third.rest.now c.in_ok-fourth.after.now c.in_ok-fourth.ensures in
    (c.in_ok-third.third * 16 + c.in_ok-fourth.fourth, omega arith, omega arith)
