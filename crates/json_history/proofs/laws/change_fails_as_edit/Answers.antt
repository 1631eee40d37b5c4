use Rattle.json_history.proofs.UndoLaws as proof
use Rattle.json_history.proofs.laws.change_fails_as_edit.Goals as goal

pub returns : goal.returns
returns c = proof.change_fails_as_edit
