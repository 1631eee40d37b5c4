use Rattle.json_containers.proofs.Stays.{object_as_it_was, object_unpacked}
use Rattle.json_containers.proofs.object.ObjectObjectCalls.reserve.Goals as goal

pub returns-in_err-pairs-clause-same : goal.returns-in_err-pairs-clause-same
returns-in_err-pairs-clause-same c = object_as_it_was c.args.self.now

pub returns-in_err-reserve-clause-same : goal.returns-in_err-reserve-clause-same
returns-in_err-reserve-clause-same c = object_unpacked c.args.self.now c.in_ok-pairs.pairs.now c.reserve.new.self c.in_ok-pairs.ensures.pairs c.in_ok-pairs.ensures.children c.reserve.ensures.items

pub returns-clause-same : goal.returns-clause-same
returns-clause-same c = object_unpacked c.args.self.now c.in_ok-pairs.pairs.now c.reserve.new.self c.in_ok-pairs.ensures.pairs c.in_ok-pairs.ensures.children c.reserve.ensures.items
