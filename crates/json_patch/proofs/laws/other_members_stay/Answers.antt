use Rattle.json_patch.proofs.MergeLaws as proof
use Rattle.json_patch.proofs.laws.other_members_stay.Goals as goal

pub returns : goal.returns
returns c = proof.other_members_stay
