use Rattle.json_history.proofs.HistoryLaws as proof
use Rattle.json_history.proofs.laws.undo_after_redo.Goals as goal

pub returns : goal.returns
returns c = proof.undo_after_redo
