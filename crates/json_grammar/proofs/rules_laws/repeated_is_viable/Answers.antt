use Rattle.json_grammar.proofs.RepeatedInput as proof
use Rattle.json_grammar.proofs.rules_laws.repeated_is_viable.Goals as goal

pub returns : goal.returns
returns c = λ lossy b k h. (proof.repeated_viable lossy b k h, λ p x l. proof.in_longest lossy b p x l.rest k l.bytes l.no_longer h)
