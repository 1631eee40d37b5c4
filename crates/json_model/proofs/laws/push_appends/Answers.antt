use Rattle.json_model.proofs.Edits as proof
use Rattle.json_model.proofs.laws.push_appends.Goals as goal

pub returns : goal.returns
returns c = proof.push_appends
