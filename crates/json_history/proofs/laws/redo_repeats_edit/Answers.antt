use Rattle.json_history.proofs.UndoLaws as proof
use Rattle.json_history.proofs.laws.redo_repeats_edit.Goals as goal

pub returns : goal.returns
returns c = proof.redo_repeats_edit
