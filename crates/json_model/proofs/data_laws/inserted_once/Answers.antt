use Rattle.json_model.proofs.Merging as proof
use Rattle.json_model.proofs.data_laws.inserted_once.Goals as goal

pub returns : goal.returns
returns c = proof.once_put
