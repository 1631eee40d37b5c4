use Rattle.json_patch.proofs.PatchLaws as proof
use Rattle.json_patch.proofs.laws.move_is_remove_and_add.Goals as goal

pub returns : goal.returns
returns c = proof.move_is_remove_and_add
