use Rattle.json_patch.proofs.MergedTwice as proof
use Rattle.json_patch.proofs.laws.merged_twice_same.Goals as goal

pub returns : goal.returns
returns c = proof.merged_twice_same
