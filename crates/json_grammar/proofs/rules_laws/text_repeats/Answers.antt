use Rattle.json_grammar.proofs.FirstRepeated as proof
use Rattle.json_grammar.proofs.rules_laws.text_repeats.Goals as goal

pub returns : goal.returns
returns c = λ lossy t b h. ((λ f. proof.text_repeats lossy t b f.0 h f.1), (λ f. proof.repeats_text lossy t b h f))
