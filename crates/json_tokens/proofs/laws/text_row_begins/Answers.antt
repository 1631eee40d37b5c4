use Rattle.json_tokens.proofs.TakenRows as proof
use Rattle.json_tokens.proofs.laws.text_row_begins.Goals as goal

pub returns : goal.returns
returns c = proof.text_begins
