use Rattle.json_patch.proofs.Indexes as proof
use Rattle.json_patch.proofs.laws.numeral_is_index.Goals as goal

pub returns : goal.returns
returns c = proof.numeral_is_index
