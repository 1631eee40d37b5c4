use Rattle.std.proofs.Common.{◌+◌, arith}
use Rattle.json_scan.specs.Runs.{IsPlain}
use Rattle.json_scan.proofs.RunEnds.{each_none, ends_within, ends_after}
use Rattle.json_scan.proofs.runs.plain_end.Goals as goal

pub returns-then-count-lt-BLOCK : goal.returns-then-count-lt-BLOCK
returns-then-count-lt-BLOCK c =
    let b = c.args.bytes.now in let at = c.args.from in
    ends_within IsPlain b at at 16 c.plain_in_block-count.result (omega arith) (omega arith) (each_none IsPlain b at) c.plain_in_block-count.ensures (omega arith)

pub returns : goal.returns
returns c =
    let b = c.args.bytes.now in let at = c.args.from in
    ends_after IsPlain b at (at + 16) c.plain_end_by_blocks-2.result (omega arith) (λ k l m. c.plain_in_block-count.ensures.each k l (omega (arith, c.plain_in_block-count.ensures.few))) c.plain_end_by_blocks-2.ensures
