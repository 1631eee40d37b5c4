use Rattle.json_containers.proofs.FoundAfter as proof
use Rattle.json_containers.proofs.laws.insert_is_found.Goals as goal

pub returns : goal.returns
returns c = proof.insert_is_found
