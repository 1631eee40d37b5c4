use Rattle.std.proofs.Common.{arith}
use Rattle.std.proofs.lemmas.Fmt.{length-decimal-le}
use Rattle.itoa.proofs.Decimal.{length_four}
use Rattle.json_buffer.proofs.placing.digit_count.Goals as goal

pub overflow_add-count : goal.overflow_add-count
overflow_add-count c =
    omega (arith, c.fours.invariant.0, length_four c.fours.left c.fours-test.true (omega arith), length-decimal-le 20 c.args.number (omega arith) (omega arith) (omega arith))

pub fours-preserved : goal.fours-preserved
fours-preserved c = (omega (arith, c.fours.invariant.0, length_four c.fours.left c.fours-test.true (omega arith)), omega (arith, c.fours.invariant.1))

pub overflow_add-result : goal.overflow_add-result
overflow_add-result c = omega (arith, c.fours.invariant.0, c.few_digit_count.ensures, length-decimal-le 20 c.args.number (omega arith) (omega arith) (omega arith))

pub returns-clause-few : goal.returns-clause-few
returns-clause-few c = omega (arith, c.fours.invariant.0, c.few_digit_count.ensures, length-decimal-le 20 c.args.number (omega arith) (omega arith) (omega arith))
