use Rattle.json_lines.proofs.OneOutcome.{one_outcome}
use Rattle.json_lines.proofs.laws.one_outcome.Goals as goal

pub returns : goal.returns
returns c = one_outcome
