use Rattle.json_data.proofs.FloatData as proof
use Rattle.json_data.proofs.laws.reads_nearest_float.Goals as goal

pub returns : goal.returns
returns c = proof.reads_nearest_float
