use Rattle.json_model.proofs.Paths as proof
use Rattle.json_model.proofs.laws.else_stays_after_change.Goals as goal

pub returns : goal.returns
returns c = proof.else_stays_after_change
