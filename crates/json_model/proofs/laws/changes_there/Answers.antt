use Rattle.json_model.proofs.Paths as proof
use Rattle.json_model.proofs.laws.changes_there.Goals as goal

pub returns : goal.returns
returns c = proof.changes_there
