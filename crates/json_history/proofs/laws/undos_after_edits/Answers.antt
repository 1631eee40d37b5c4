use Rattle.json_history.proofs.HistoryLaws as proof
use Rattle.json_history.proofs.laws.undos_after_edits.Goals as goal

pub returns : goal.returns
returns c = proof.undos_after_edits
