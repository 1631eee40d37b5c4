use Rattle.json_text.proofs.OneFaultAt as proof
use Rattle.json_text.proofs.laws.fault_with_is_no_text.Goals as goal

pub returns : goal.returns
returns c = proof.fault_with_is_no_text
