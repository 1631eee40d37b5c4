use Rattle.json_containers.proofs.Stays.{own_no_place}
use Rattle.json_containers.proofs.object.ObjectObjectCalls.with_capacity.Goals as goal

pub returns-clause-no_place : goal.returns-clause-no_place
returns-clause-no_place c = own_no_place c.from_list.result _ c.from_list.ensures
