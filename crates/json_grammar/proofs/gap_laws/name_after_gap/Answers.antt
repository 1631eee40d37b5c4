use Rattle.json_grammar.proofs.NeedsNames as proof
use Rattle.json_grammar.proofs.gap_laws.name_after_gap.Goals as goal

pub returns : goal.returns
returns c = proof.name_after_gap
