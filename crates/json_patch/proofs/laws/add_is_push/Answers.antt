use Rattle.json_patch.proofs.PatchLaws as proof
use Rattle.json_patch.proofs.laws.add_is_push.Goals as goal

pub returns : goal.returns
returns c = proof.add_is_push
