use Rattle.json_patch.proofs.PatchLaws as proof
use Rattle.json_patch.proofs.laws.tokens_are_path.Goals as goal

pub returns : goal.returns
returns c = proof.tokens_are_path
