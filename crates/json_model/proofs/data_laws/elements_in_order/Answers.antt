use Rattle.json_model.proofs.Data as proof
use Rattle.json_model.proofs.data_laws.elements_in_order.Goals as goal

pub returns : goal.returns
returns c = proof.elements_in_order
