use Rattle.json_grammar.proofs.RepeatedInput as proof
use Rattle.json_grammar.proofs.rules_laws.one_first_repeated.Goals as goal

pub returns : goal.returns
returns c = proof.one_first
