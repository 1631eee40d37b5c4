use Rattle.json_data.proofs.FloatData as proof
use Rattle.json_data.proofs.laws.same_float.Goals as goal

pub returns : goal.returns
returns c = proof.same_float
