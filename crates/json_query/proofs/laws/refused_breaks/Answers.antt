use Rattle.json_query.proofs.TextStops as proof
use Rattle.json_query.proofs.laws.refused_breaks.Goals as goal

pub returns : goal.returns
returns c = proof.refused_breaks
