use Rattle.std.proofs.Common.{arith}
use Rattle.json_grammar.specs.Grammar.{IsWhitespace}
use Rattle.json_scan.proofs.RunEnds.{each_more, ends_within, ends_after}
use Rattle.json_scan.proofs.runs.ws_end_by_blocks.Goals as goal

pub returns-then-count-lt-BLOCK : goal.returns-then-count-lt-BLOCK
returns-then-count-lt-BLOCK c =
    ends_within IsWhitespace c.args.bytes.now c.args.from c.scan.at 16 c.space_in_block-count.result c.scan.invariant.order (omega arith) c.scan.invariant.each c.space_in_block-count.ensures (omega arith)

pub scan-preserved : goal.scan-preserved
scan-preserved c = record {
  order = omega arith;
  within = omega arith;
  each = λ k l m. each_more IsWhitespace c.args.bytes.now c.args.from c.scan.at 16 c.space_in_block-count.result c.scan.invariant.each c.space_in_block-count.ensures k l (omega (arith, c.space_in_block-count.ensures.few));
}

pub returns : goal.returns
returns c = ends_after IsWhitespace c.args.bytes.now c.args.from c.scan.at c.ws_end_of_few.result c.scan.invariant.order c.scan.invariant.each c.ws_end_of_few.ensures
