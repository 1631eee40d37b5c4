use Rattle.json_patch.proofs.PatchLaws as proof
use Rattle.json_patch.proofs.laws.copy_is_add.Goals as goal

pub returns : goal.returns
returns c = proof.copy_is_add
