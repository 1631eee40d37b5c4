use Rattle.json_grammar.proofs.RulesFault as proof
use Rattle.json_grammar.proofs.rules_laws.fault_with_limit.Goals as goal

pub returns : goal.returns
returns c = λ lossy limit b code k. (proof.fault_with_plain lossy limit b code k, proof.plain_with lossy limit b code k)
