use Rattle.std.proofs.Common.{arith}
use Rattle.json_text.proofs.Integers.{counted_digits}
use Rattle.json_text.proofs.integer.few_digits.Goals as goal

pub word_value-requires-clause-digits : goal.word_value-requires-clause-digits
word_value-requires-clause-digits c =
    let n = c.digits_in_block-count in
    counted_digits c.args.bytes.now c.args.from c.min-few.result n.result (omega arith) (omega arith) n.ensures.each

pub more_digits-requires-then-count-gt-WORD-clause-digits : goal.more_digits-requires-then-count-gt-WORD-clause-digits
more_digits-requires-then-count-gt-WORD-clause-digits c =
    let n = c.digits_in_block-count in
    counted_digits c.args.bytes.now c.args.from c.min-few.result n.result (omega arith) (omega arith) n.ensures.each

pub returns-clause-digits : goal.returns-clause-digits
returns-clause-digits c =
    let n = c.digits_in_block-count in
    counted_digits c.args.bytes.now c.args.from c.min-few.result n.result (omega arith) (omega arith) n.ensures.each
