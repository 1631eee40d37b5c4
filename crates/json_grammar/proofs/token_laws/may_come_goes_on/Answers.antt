use Rattle.json_grammar.proofs.TokenPrefixes as proof
use Rattle.json_grammar.proofs.token_laws.may_come_goes_on.Goals as goal

pub returns : goal.returns
returns c = λ ts x b. (proof.goes_on ts x b, proof.may_come ts x)
