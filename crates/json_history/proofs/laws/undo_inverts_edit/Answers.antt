use Rattle.json_history.proofs.UndoLaws as proof
use Rattle.json_history.proofs.laws.undo_inverts_edit.Goals as goal

pub returns : goal.returns
returns c = proof.undo_inverts_edit
