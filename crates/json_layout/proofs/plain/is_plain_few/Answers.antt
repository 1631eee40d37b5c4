use Rattle.std.proofs.Common.{arith}
use Rattle.json_layout.proofs.PlainBlocks.{plain_all_of}
use Rattle.json_layout.proofs.plain.is_plain_few.Goals as goal

pub returns : goal.returns
returns c = λ _. plain_all_of c.args.text.now (λ k l. c.each.invariant k (omega (arith, c.each-test.false, l)))
