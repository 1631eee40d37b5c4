use Rattle.json_patch.proofs.MergeLaws as proof
use Rattle.json_patch.proofs.laws.empty_patch_keeps.Goals as goal

pub returns : goal.returns
returns c = proof.empty_patch_keeps
