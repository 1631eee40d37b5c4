use Rattle.json_grammar.proofs.FirstRepeated as proof
use Rattle.json_grammar.proofs.rules_reader_laws.place_repeats.Goals as goal

pub returns : goal.returns
returns c = λ lossy p c w ts h. ((λ f. proof.repeats_reading lossy f.0 h f.1), (λ f. proof.reading_repeats lossy h f))
