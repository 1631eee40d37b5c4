use Rattle.json_query.proofs.PathQueries as proof
use Rattle.json_query.proofs.laws.paths_select_their_nodes.Goals as goal

pub returns : goal.returns
returns c = proof.paths_select_their_nodes
