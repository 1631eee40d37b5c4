use Rattle.json_grammar.specs.Grammar.{IsDigit, digits}
use Rattle.json_scan.proofs.Digits.{digits_on}
use Rattle.json_scan.proofs.RunEnds.{run_ends}
use Rattle.json_scan.proofs.runs.few_digits_run.Goals as goal

pub returns : goal.returns
returns c = record { ends = run_ends digits IsDigit c.args.bytes.now c.args.from c.digits_end_of_few.result tt (digits_on c.args.bytes.now c.args.from) c.digits_end_of_few.ensures }
