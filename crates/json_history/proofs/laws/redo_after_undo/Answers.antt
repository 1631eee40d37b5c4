use Rattle.json_history.proofs.HistoryLaws as proof
use Rattle.json_history.proofs.laws.redo_after_undo.Goals as goal

pub returns : goal.returns
returns c = proof.redo_after_undo
