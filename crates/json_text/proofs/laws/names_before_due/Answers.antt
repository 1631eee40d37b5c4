use Rattle.json_text.proofs.DueTokens as proof
use Rattle.json_text.proofs.laws.names_before_due.Goals as goal

pub returns : goal.returns
returns c = proof.names_before_due
