use Rattle.json_rpc.proofs.UndoneChanges as proof
use Rattle.json_rpc.proofs.laws.redo_takes_back_the_undo.Goals as goal

pub returns : goal.returns
returns c = proof.redo_takes_back_the_undo
