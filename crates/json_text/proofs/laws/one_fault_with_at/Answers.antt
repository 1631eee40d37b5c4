use Rattle.json_text.proofs.OneFaultAt as proof
use Rattle.json_text.proofs.laws.one_fault_with_at.Goals as goal

pub returns : goal.returns
returns c = proof.one_fault_with_at
