use Rattle.json_text.proofs.DueTokens as proof
use Rattle.json_text.proofs.laws.due_after_tokens.Goals as goal

pub returns : goal.returns
returns c = proof.due_after_tokens
