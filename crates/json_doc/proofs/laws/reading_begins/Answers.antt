use Rattle.json_grammar.proofs.TokenPrefixes as proof
use Rattle.json_doc.proofs.laws.reading_begins.Goals as goal

pub returns : goal.returns
returns c = λ lossy p o w ts h. proof.reading_begins h
