use Rattle.json_grammar.proofs.ExampleRules as proof
use Rattle.json_grammar.proofs.rules_examples.repeated_name_refused.Goals as goal

pub returns : goal.returns
returns c = proof.repeated_name_refused
