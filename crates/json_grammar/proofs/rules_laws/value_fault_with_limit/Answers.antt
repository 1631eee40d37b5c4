use Rattle.json_grammar.proofs.RulesValueFault as proof
use Rattle.json_grammar.proofs.rules_laws.value_fault_with_limit.Goals as goal

pub returns : goal.returns
returns c = λ lossy limit b code k. (proof.value_with_limit lossy limit b code k, proof.limit_with_value lossy limit b code k)
