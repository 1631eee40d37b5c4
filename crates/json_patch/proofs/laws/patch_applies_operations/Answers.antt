use Rattle.json_patch.proofs.PatchOrder as proof
use Rattle.json_patch.proofs.laws.patch_applies_operations.Goals as goal

pub returns : goal.returns
returns c = proof.patch_applies_operations
