use Rattle.json_grammar.proofs.RepeatedNames as proof
use Rattle.json_grammar.proofs.rules_laws.repeated_stays.Goals as goal

pub returns : goal.returns
returns c = proof.repeated_more
