use Rattle.json_patch.proofs.PatchOrder as proof
use Rattle.json_patch.proofs.laws.first_bad_operation_is_named.Goals as goal

pub returns : goal.returns
returns c = proof.first_bad_operation_is_named
