use Rattle.json_data.proofs.ValueData as proof
use Rattle.json_data.proofs.laws.same_tree_of_datum.Goals as goal

pub returns : goal.returns
returns c = proof.same_value
