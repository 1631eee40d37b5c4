use Rattle.json_history.proofs.HistoryLaws as proof
use Rattle.json_history.proofs.laws.log_follows_call.Goals as goal

pub returns : goal.returns
returns c = proof.log_follows_call
