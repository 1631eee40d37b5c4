use Rattle.std.proofs.Common.{◌+◌, arith}
use Rattle.json_grammar.specs.Grammar.{IsDigit, digits}
use Rattle.json_scan.proofs.Digits.{digits_on}
use Rattle.json_scan.proofs.RunEnds.{each_none, ends_within, run_ends}
use Rattle.json_scan.proofs.runs.short_digit_run.Goals as goal

pub returns-then-count-lt-BLOCK-clause-ends : goal.returns-then-count-lt-BLOCK-clause-ends
returns-then-count-lt-BLOCK-clause-ends c =
    let b = c.args.bytes.now in let at = c.args.from in let d = c.digits_in_block-count in
    run_ends digits IsDigit b at (at + d.result) tt (digits_on b at)
    (ends_within IsDigit b at at 16 d.result (omega arith) (omega arith) (each_none IsDigit b at) d.ensures (omega arith))
