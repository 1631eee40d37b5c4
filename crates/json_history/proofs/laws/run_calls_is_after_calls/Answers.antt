use Rattle.json_history.proofs.HistoryLaws as proof
use Rattle.json_history.proofs.laws.run_calls_is_after_calls.Goals as goal

pub returns : goal.returns
returns c = proof.run_calls_is_after_calls
