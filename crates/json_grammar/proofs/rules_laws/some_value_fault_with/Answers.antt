use Rattle.json_grammar.proofs.RulesValueFault as proof
use Rattle.json_grammar.proofs.rules_laws.some_value_fault_with.Goals as goal

pub returns : goal.returns
returns c = proof.some_value_fault_with
