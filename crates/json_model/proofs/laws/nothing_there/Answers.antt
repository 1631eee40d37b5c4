use Rattle.json_model.proofs.Paths as proof
use Rattle.json_model.proofs.laws.nothing_there.Goals as goal

pub returns : goal.returns
returns c = proof.nothing_there
