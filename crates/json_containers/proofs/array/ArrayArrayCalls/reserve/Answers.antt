use Rattle.json_containers.proofs.Stays.{array_as_it_was, array_unpacked}
use Rattle.json_containers.proofs.array.ArrayArrayCalls.reserve.Goals as goal

pub returns-in_err-list-clause-same : goal.returns-in_err-list-clause-same
returns-in_err-list-clause-same c = array_as_it_was c.args.self.now

pub returns-in_err-reserve-clause-same : goal.returns-in_err-reserve-clause-same
returns-in_err-reserve-clause-same c = array_unpacked c.args.self.now c.in_ok-list.list.now c.reserve.new.self c.in_ok-list.ensures.list c.in_ok-list.ensures.children c.reserve.ensures.items

pub returns-clause-same : goal.returns-clause-same
returns-clause-same c = array_unpacked c.args.self.now c.in_ok-list.list.now c.reserve.new.self c.in_ok-list.ensures.list c.in_ok-list.ensures.children c.reserve.ensures.items
