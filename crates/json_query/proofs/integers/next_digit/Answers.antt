use Rattle.std.proofs.Common.{arith}
use Rattle.std.specs.Char.{digit_value}
use Rattle.std.proofs.Common.{◌≤◌}
use Rattle.json_query.proofs.TextChars.{no_digit_at}
use Rattle.json_query.proofs.integers.next_digit.Goals as goal

pub returns-in-None-to_digit : goal.returns-in-None-to_digit
returns-in-None-to_digit c =
    let much : 10 ≤ digit_value c.in-Some.c = omega (arith, c.in-None-to_digit.ensures.value) in
    no_digit_at c.in-Some.c c.args.text.now c.in-Some.rest.now c.in-Some.ensures much
