use Rattle.std.proofs.Common.{refl}
use Rattle.json_value.specs.Room.{spare_in}
use Rattle.json_containers.proofs.Rooms.{took_one, no_room}
use Rattle.json_value.proofs.AppliedTrees.{anyway}
use Rattle.json_containers.proofs.Stays.{array_as_it_was, array_unpacked}
use Rattle.json_containers.proofs.array.ArrayArrayCalls.push.Goals as goal

pub returns-in_err-push-clause-free : goal.returns-in_err-push-clause-free
returns-in_err-push-clause-free c = λ some. absurd (no_room (spare_in c.args.self.now) c.in_ok-list.list.now c.in_ok-list.ensures.room c.in_err-push.ensures.full some)

pub returns-in_err-push-clause-room : goal.returns-in_err-push-clause-room
returns-in_err-push-clause-room c = took_one (spare_in c.args.self.now) c.in_ok-list.list.now c.push.new.self c.in_ok-list.ensures.room c.push.ensures.capacity c.push.ensures.upper_bound

pub returns-clause-children : goal.returns-clause-children
returns-clause-children c =
    record { first = c.in_ok-list.list.now.items; list = c.push.new.self; same = c.in_ok-list.ensures.list; unpacked = c.in_ok-list.ensures.children; is = refl; changed = c.in_ok-push.ensures.items }

pub returns-clause-room : goal.returns-clause-room
returns-clause-room c = took_one (spare_in c.args.self.now) c.in_ok-list.list.now c.push.new.self c.in_ok-list.ensures.room c.push.ensures.capacity c.push.ensures.upper_bound

pub returns-in_err-list-clause-kept : goal.returns-in_err-list-clause-kept
returns-in_err-list-clause-kept c = anyway c.from_residual.result (array_as_it_was c.args.self.now)

pub returns-in_err-push-clause-kept : goal.returns-in_err-push-clause-kept
returns-in_err-push-clause-kept c = anyway c.from_residual-in_err-push.result (array_unpacked c.args.self.now c.in_ok-list.list.now c.push.new.self c.in_ok-list.ensures.list c.in_ok-list.ensures.children c.in_err-push.ensures.items)
