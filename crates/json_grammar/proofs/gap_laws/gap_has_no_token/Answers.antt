use Rattle.json_grammar.proofs.Gaps as proof
use Rattle.json_grammar.proofs.gap_laws.gap_has_no_token.Goals as goal

pub returns : goal.returns
returns c = proof.gap_has_no_token
