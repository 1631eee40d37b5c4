use Rattle.json_grammar.proofs.ExampleRules as proof
use Rattle.json_grammar.proofs.rules_examples.inner_name_fits.Goals as goal

pub returns : goal.returns
returns c = proof.inner_name_fits
