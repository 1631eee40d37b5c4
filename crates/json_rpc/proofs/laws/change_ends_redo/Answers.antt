use Rattle.json_rpc.proofs.UndoneChanges as proof
use Rattle.json_rpc.proofs.laws.change_ends_redo.Goals as goal

pub returns : goal.returns
returns c = proof.change_ends_redo
