use Rattle.json_containers.proofs.FoundAfter as proof
use Rattle.json_containers.proofs.laws.remove_leaves_none.Goals as goal

pub returns : goal.returns
returns c = proof.remove_leaves_none
