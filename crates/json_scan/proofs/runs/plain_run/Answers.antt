use Rattle.json_scan.specs.Runs.{IsPlain, plain}
use Rattle.json_scan.proofs.Plain.{plain_more}
use Rattle.json_scan.proofs.RunEnds.{run_ends}
use Rattle.json_scan.proofs.runs.plain_run.Goals as goal

pub returns : goal.returns
returns c = record { ends = run_ends plain IsPlain c.args.bytes.now c.args.from c.plain_end.result tt (plain_more c.args.bytes.now c.args.from) c.plain_end.ensures }
