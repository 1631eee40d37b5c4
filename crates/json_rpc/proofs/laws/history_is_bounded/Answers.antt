use Rattle.json_rpc.proofs.UndoneChanges as proof
use Rattle.json_rpc.proofs.laws.history_is_bounded.Goals as goal

pub returns : goal.returns
returns c = proof.history_is_bounded
