use Rattle.std.proofs.Common.{◌+◌, arith}
use Rattle.json_scan.specs.Runs.{IsPlain}
use Rattle.json_scan.proofs.RunEnds.{each_none, ends_within, ends_after}
use Rattle.json_scan.proofs.runs.plain_end_by_half.Goals as goal

pub returns-then-count-lt-HALF : goal.returns-then-count-lt-HALF
returns-then-count-lt-HALF c =
    let b = c.args.bytes.now in let at = c.args.from in
    ends_within IsPlain b at at 8 c.plain_in_half-count.result (omega arith) (omega arith) (each_none IsPlain b at) c.plain_in_half-count.ensures (omega arith)

pub returns : goal.returns
returns c =
    let b = c.args.bytes.now in let at = c.args.from in
    ends_after IsPlain b at (at + 8) c.plain_end_by_quarter-2.result (omega arith) (λ k l m. c.plain_in_half-count.ensures.each k l (omega (arith, c.plain_in_half-count.ensures.few))) c.plain_end_by_quarter-2.ensures
