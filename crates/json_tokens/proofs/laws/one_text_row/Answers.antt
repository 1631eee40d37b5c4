use Rattle.json_tokens.proofs.TakenRows as proof
use Rattle.json_tokens.proofs.laws.one_text_row.Goals as goal

pub returns : goal.returns
returns c = proof.text_one
