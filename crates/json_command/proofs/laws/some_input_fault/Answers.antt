use Rattle.json_command.proofs.Inputs as proof
use Rattle.json_command.proofs.laws.some_input_fault.Goals as goal

pub returns : goal.returns
returns c = proof.some_input_fault
