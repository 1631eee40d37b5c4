use Rattle.json_grammar.proofs.RulesFault as proof
use Rattle.json_grammar.proofs.rules_laws.one_fault_with.Goals as goal

pub returns : goal.returns
returns c = proof.one_fault_with
