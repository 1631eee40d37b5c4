use Rattle.json_rpc.proofs.ServingLaws as proof
use Rattle.json_rpc.proofs.laws.lookup_fails_as_an_edit.Goals as goal

pub returns : goal.returns
returns c = proof.lookup_fails_as_an_edit
