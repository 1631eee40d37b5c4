use Rattle.std.proofs.Common.{◌+◌, arith}
use Rattle.json_grammar.specs.Grammar.{IsDigit}
use Rattle.json_scan.proofs.RunEnds.{each_none, ends_within, ends_after}
use Rattle.json_scan.proofs.runs.digits_end.Goals as goal

pub returns-then-count-lt-BLOCK : goal.returns-then-count-lt-BLOCK
returns-then-count-lt-BLOCK c =
    let b = c.args.bytes.now in let at = c.args.from in
    ends_within IsDigit b at at 16 c.digits_in_block-count.result (omega arith) (omega arith) (each_none IsDigit b at) c.digits_in_block-count.ensures (omega arith)

pub returns : goal.returns
returns c =
    let b = c.args.bytes.now in let at = c.args.from in
    ends_after IsDigit b at (at + 16) c.digits_end_by_blocks-2.result (omega arith) (λ k l m. c.digits_in_block-count.ensures.each k l (omega (arith, c.digits_in_block-count.ensures.few))) c.digits_end_by_blocks-2.ensures
