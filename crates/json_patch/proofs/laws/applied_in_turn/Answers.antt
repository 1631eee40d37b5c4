use Rattle.json_patch.proofs.PatchOrder as proof
use Rattle.json_patch.proofs.laws.applied_in_turn.Goals as goal

pub returns : goal.returns
returns c = proof.applied_in_turn
