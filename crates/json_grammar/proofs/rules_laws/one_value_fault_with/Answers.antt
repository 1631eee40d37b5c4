use Rattle.json_grammar.proofs.RulesValueFault as proof
use Rattle.json_grammar.proofs.rules_laws.one_value_fault_with.Goals as goal

pub returns : goal.returns
returns c = proof.one_value_fault_with
