use Rattle.json_patch.proofs.PatchLaws as proof
use Rattle.json_patch.proofs.laws.replace_is_set.Goals as goal

pub returns : goal.returns
returns c = proof.replace_is_set
