use Rattle.json_patch.proofs.PatchLaws as proof
use Rattle.json_patch.proofs.laws.first_token_then_rest.Goals as goal

pub returns : goal.returns
returns c = proof.first_token_then_rest
