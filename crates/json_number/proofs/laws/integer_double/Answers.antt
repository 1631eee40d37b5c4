use Rattle.json_number.proofs.Doubles as proof
use Rattle.json_number.proofs.laws.integer_double.Goals as goal

pub returns : goal.returns
returns c = proof.integer_double
