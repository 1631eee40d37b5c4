use Rattle.json_history.proofs.HistoryLaws as proof
use Rattle.json_history.proofs.laws.redos_after_undos.Goals as goal

pub returns : goal.returns
returns c = proof.redos_after_undos
