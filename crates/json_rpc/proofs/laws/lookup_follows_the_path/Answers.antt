use Rattle.json_rpc.proofs.ServingLaws as proof
use Rattle.json_rpc.proofs.laws.lookup_follows_the_path.Goals as goal

pub returns : goal.returns
returns c = proof.lookup_follows_the_path
