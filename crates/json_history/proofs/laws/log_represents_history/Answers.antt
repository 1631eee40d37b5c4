use Rattle.json_history.proofs.HistoryLaws as proof
use Rattle.json_history.proofs.laws.log_represents_history.Goals as goal

pub returns : goal.returns
returns c = proof.log_represents_history
