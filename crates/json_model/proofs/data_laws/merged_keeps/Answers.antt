use Rattle.json_model.proofs.MergedTrees as proof
use Rattle.json_model.proofs.data_laws.merged_keeps.Goals as goal

pub returns : goal.returns
returns c = proof.merged_keeps
