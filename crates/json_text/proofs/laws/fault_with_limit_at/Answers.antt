use Rattle.json_text.proofs.OneFaultAt as proof
use Rattle.json_text.proofs.laws.fault_with_limit_at.Goals as goal

pub returns : goal.returns
returns c = proof.fault_with_limit_at
