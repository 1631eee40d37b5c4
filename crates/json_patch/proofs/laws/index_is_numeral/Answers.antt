use Rattle.json_patch.proofs.Indexes as proof
use Rattle.json_patch.proofs.laws.index_is_numeral.Goals as goal

pub returns : goal.returns
returns c = proof.index_is_numeral
