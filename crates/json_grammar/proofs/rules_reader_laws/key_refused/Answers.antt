use Rattle.json_grammar.proofs.RulesReader as proof
use Rattle.json_grammar.proofs.rules_reader_laws.key_refused.Goals as goal

pub returns : goal.returns
returns c = proof.key_refused
