use Rattle.json_grammar.proofs.RulesReader as proof
use Rattle.json_grammar.proofs.rules_reader_laws.no_name_within.Goals as goal

pub returns : goal.returns
returns c = λ lossy b j k c w ts l m h. (proof.word_no_name lossy b j k c w ts l m h, proof.number_no_name lossy b j k c w ts l m h, proof.string_no_name lossy b j k c w ts l m h)
