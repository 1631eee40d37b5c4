use Rattle.json_model.proofs.Data as proof
use Rattle.json_model.proofs.data_laws.rows_in_order.Goals as goal

pub returns : goal.returns
returns c = proof.rows_in_order
