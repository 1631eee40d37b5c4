use Rattle.json_rpc.proofs.UndoneChanges as proof
use Rattle.json_rpc.proofs.laws.undo_takes_back_the_redo.Goals as goal

pub returns : goal.returns
returns c = proof.undo_takes_back_the_redo
