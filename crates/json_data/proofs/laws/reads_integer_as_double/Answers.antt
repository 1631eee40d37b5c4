use Rattle.json_data.proofs.FloatData as proof
use Rattle.json_data.proofs.laws.reads_integer_as_double.Goals as goal

pub returns : goal.returns
returns c = proof.reads_integer_as_double
