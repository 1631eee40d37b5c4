use Rattle.json_grammar.proofs.OpenKeys as proof
use Rattle.json_grammar.proofs.rules_reader_laws.open_keys_inside.Goals as goal

pub returns : goal.returns
returns c = proof.keys_inside
