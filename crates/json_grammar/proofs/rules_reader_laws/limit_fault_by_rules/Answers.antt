use Rattle.json_grammar.proofs.RulesReader as proof
use Rattle.json_grammar.proofs.rules_reader_laws.limit_fault_by_rules.Goals as goal

pub returns : goal.returns
returns c = proof.fault_stands
