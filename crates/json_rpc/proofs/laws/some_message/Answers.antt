use Rattle.json_rpc.proofs.Messages as proof
use Rattle.json_rpc.proofs.laws.some_message.Goals as goal

pub returns : goal.returns
returns c = proof.some_message
