use Rattle.json_grammar.proofs.RulesValueFault as proof
use Rattle.json_grammar.proofs.rules_laws.reads_has_no_fault_with.Goals as goal

pub returns : goal.returns
returns c = proof.reads_no_fault_with
