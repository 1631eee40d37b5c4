use Rattle.json_lines.proofs.OneOutcome.{some_outcome}
use Rattle.json_lines.proofs.laws.some_outcome.Goals as goal

pub returns : goal.returns
returns c = some_outcome
