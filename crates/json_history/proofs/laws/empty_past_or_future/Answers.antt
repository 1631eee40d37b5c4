use Rattle.json_history.proofs.HistoryLaws as proof
use Rattle.json_history.proofs.laws.empty_past_or_future.Goals as goal

pub returns : goal.returns
returns c = proof.empty_past_or_future
