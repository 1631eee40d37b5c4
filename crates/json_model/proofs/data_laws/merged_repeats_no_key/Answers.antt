use Rattle.json_model.proofs.MergedTrees as proof
use Rattle.json_model.proofs.data_laws.merged_repeats_no_key.Goals as goal

pub returns : goal.returns
returns c = proof.merged_repeats
