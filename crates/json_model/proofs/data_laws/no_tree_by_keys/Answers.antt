use Rattle.json_model.proofs.Data as proof
use Rattle.json_model.proofs.data_laws.no_tree_by_keys.Goals as goal

pub returns : goal.returns
returns c = λ d. (proof.no_tree d, proof.bare_key d)
