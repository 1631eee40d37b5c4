use Rattle.json_patch.proofs.PatchLaws as proof
use Rattle.json_patch.proofs.laws.remove_is_remove.Goals as goal

pub returns : goal.returns
returns c = proof.remove_is_remove
