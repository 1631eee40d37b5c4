use Rattle.json_grammar.proofs.RulesReader as proof
use Rattle.json_grammar.proofs.rules_reader_laws.key_repeats.Goals as goal

pub returns : goal.returns
returns c = λ lossy q v c w ts s h n i. proof.key_repeats lossy q v s h n i
