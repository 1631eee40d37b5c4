use Rattle.json_tokens.proofs.TakenRows as proof
use Rattle.json_tokens.proofs.laws.one_value_row.Goals as goal

pub returns : goal.returns
returns c = proof.value_one
