use Rattle.json_patch.proofs.PatchLaws as proof
use Rattle.json_patch.proofs.laws.add_at_root.Goals as goal

pub returns : goal.returns
returns c = proof.add_at_root
