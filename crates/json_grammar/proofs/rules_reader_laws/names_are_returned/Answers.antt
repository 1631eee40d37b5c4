use Rattle.json_grammar.proofs.RulesReader as proof
use Rattle.json_grammar.proofs.rules_reader_laws.names_are_returned.Goals as goal

pub returns : goal.returns
returns c = proof.names_told
