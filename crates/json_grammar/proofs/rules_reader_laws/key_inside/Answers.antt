use Rattle.json_grammar.proofs.OpenKeys as proof
use Rattle.json_grammar.proofs.rules_reader_laws.key_inside.Goals as goal

pub returns : goal.returns
returns c = proof.key_inside
