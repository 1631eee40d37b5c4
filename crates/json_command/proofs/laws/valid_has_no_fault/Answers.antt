use Rattle.json_command.proofs.Inputs as proof
use Rattle.json_command.proofs.laws.valid_has_no_fault.Goals as goal

pub returns : goal.returns
returns c = proof.valid_no_fault
