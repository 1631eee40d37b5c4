use Rattle.json_grammar.proofs.OpenKeys as proof
use Rattle.json_grammar.proofs.rules_reader_laws.one_token_more.Goals as goal

pub returns : goal.returns
returns c = λ ts x. (proof.repeat_one ts x, proof.repeat_more ts x)
