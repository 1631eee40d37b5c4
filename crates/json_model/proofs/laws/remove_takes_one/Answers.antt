use Rattle.json_model.proofs.Edits as proof
use Rattle.json_model.proofs.laws.remove_takes_one.Goals as goal

pub returns : goal.returns
returns c = proof.remove_takes_one
