use Rattle.json_grammar.proofs.TokenPrefixes as proof
use Rattle.json_grammar.proofs.token_laws.accepted_begins.Goals as goal

pub returns : goal.returns
returns c = λ ts. (proof.accepted_begins ts, proof.begins_accepted ts)
