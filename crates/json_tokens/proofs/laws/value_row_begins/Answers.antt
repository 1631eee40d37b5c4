use Rattle.json_tokens.proofs.TakenRows as proof
use Rattle.json_tokens.proofs.laws.value_row_begins.Goals as goal

pub returns : goal.returns
returns c = proof.value_begins
