use Rattle.json_patch.proofs.MergeLaws as proof
use Rattle.json_patch.proofs.laws.merged_twice.Goals as goal

pub returns : goal.returns
returns c = proof.merged_twice
