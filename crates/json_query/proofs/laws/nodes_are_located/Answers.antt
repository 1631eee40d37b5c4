use Rattle.json_query.proofs.LocatedNodes as proof
use Rattle.json_query.proofs.laws.nodes_are_located.Goals as goal

pub returns : goal.returns
returns c = proof.nodes_are_located
