use Rattle.json_grammar.proofs.RulesFault as proof
use Rattle.json_grammar.proofs.rules_laws.text_has_no_fault_with.Goals as goal

pub returns : goal.returns
returns c = proof.text_no_fault_with
