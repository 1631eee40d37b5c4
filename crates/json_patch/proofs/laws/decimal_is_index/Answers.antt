use Rattle.json_patch.proofs.Indexes as proof
use Rattle.json_patch.proofs.laws.decimal_is_index.Goals as goal

pub returns : goal.returns
returns c = proof.decimal_is_index
