use Rattle.json_grammar.proofs.RulesFault as proof
use Rattle.json_grammar.proofs.rules_laws.some_fault_with.Goals as goal

pub returns : goal.returns
returns c = proof.some_fault_with
