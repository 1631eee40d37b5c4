use Rattle.json_containers.proofs.Turns as proof
use Rattle.json_containers.proofs.laws.nothing_is_given_after_all.Goals as goal

pub returns : goal.returns
returns c = proof.nothing_is_given_after_all
