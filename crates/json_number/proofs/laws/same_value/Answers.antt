use Rattle.json_number.proofs.Forms as proof
use Rattle.json_number.proofs.laws.same_value.Goals as goal

pub returns : goal.returns
returns c = proof.same_value
