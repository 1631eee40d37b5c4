use Rattle.json_containers.proofs.Turns as proof
use Rattle.json_containers.proofs.laws.each_is_given_once.Goals as goal

pub returns : goal.returns
returns c = proof.each_is_given_once
