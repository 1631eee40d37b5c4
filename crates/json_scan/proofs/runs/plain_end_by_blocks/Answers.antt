use Rattle.std.proofs.Common.{arith}
use Rattle.json_scan.specs.Runs.{IsPlain}
use Rattle.json_scan.proofs.RunEnds.{each_more, ends_within, ends_after}
use Rattle.json_scan.proofs.runs.plain_end_by_blocks.Goals as goal

pub returns-then-count-lt-BLOCK : goal.returns-then-count-lt-BLOCK
returns-then-count-lt-BLOCK c =
    ends_within IsPlain c.args.bytes.now c.args.from c.scan.at 16 c.plain_in_block-count.result c.scan.invariant.order (omega arith) c.scan.invariant.each c.plain_in_block-count.ensures (omega arith)

pub scan-preserved : goal.scan-preserved
scan-preserved c = record {
  order = omega arith;
  within = omega arith;
  each = λ k l m. each_more IsPlain c.args.bytes.now c.args.from c.scan.at 16 c.plain_in_block-count.result c.scan.invariant.each c.plain_in_block-count.ensures k l (omega (arith, c.plain_in_block-count.ensures.few));
}

pub returns : goal.returns
returns c = ends_after IsPlain c.args.bytes.now c.args.from c.scan.at c.plain_end_by_half.result c.scan.invariant.order c.scan.invariant.each c.plain_end_by_half.ensures
