use Rattle.json_patch.proofs.PatchLaws as proof
use Rattle.json_patch.proofs.laws.move_to_itself.Goals as goal

pub returns : goal.returns
returns c = proof.move_to_itself
