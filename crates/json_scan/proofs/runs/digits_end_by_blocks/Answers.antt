use Rattle.std.proofs.Common.{arith}
use Rattle.json_grammar.specs.Grammar.{IsDigit}
use Rattle.json_scan.proofs.RunEnds.{each_more, ends_within, ends_after}
use Rattle.json_scan.proofs.runs.digits_end_by_blocks.Goals as goal

pub returns-then-count-lt-BLOCK : goal.returns-then-count-lt-BLOCK
returns-then-count-lt-BLOCK c =
    ends_within IsDigit c.args.bytes.now c.args.from c.scan.at 16 c.digits_in_block-count.result c.scan.invariant.order (omega arith) c.scan.invariant.each c.digits_in_block-count.ensures (omega arith)

pub scan-preserved : goal.scan-preserved
scan-preserved c = record {
  order = omega arith;
  within = omega arith;
  each = λ k l m. each_more IsDigit c.args.bytes.now c.args.from c.scan.at 16 c.digits_in_block-count.result c.scan.invariant.each c.digits_in_block-count.ensures k l (omega (arith, c.digits_in_block-count.ensures.few));
}

pub returns : goal.returns
returns c = ends_after IsDigit c.args.bytes.now c.args.from c.scan.at c.digits_end_of_few.result c.scan.invariant.order c.scan.invariant.each c.digits_end_of_few.ensures
