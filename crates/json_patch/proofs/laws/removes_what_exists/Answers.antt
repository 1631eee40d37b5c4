use Rattle.json_patch.proofs.PatchLaws as proof
use Rattle.json_patch.proofs.laws.removes_what_exists.Goals as goal

pub returns : goal.returns
returns c = proof.removes_what_exists
