use Rattle.std.proofs.Common.{refl}
use Rattle.json_value.proofs.AppliedTrees.{anyway}
use Rattle.json_containers.proofs.Stays.{array_as_it_was, array_unpacked}
use Rattle.json_containers.proofs.array.ArrayArrayCalls.extend.Goals as goal

pub returns-clause-children : goal.returns-clause-children
returns-clause-children c =
    record { first = c.in_ok-list.list.now.items; list = c.append.new.self; same = c.in_ok-list.ensures.list; unpacked = c.in_ok-list.ensures.children; is = refl; changed = (c.in_ok-copies.copies.items, c.in_ok-copies.ensures.origins, c.in_ok-append.ensures.items) }

pub returns-in_err-copies-clause-kept : goal.returns-in_err-copies-clause-kept
returns-in_err-copies-clause-kept c = anyway c.from_residual.result (array_as_it_was c.args.self.now)

pub returns-in_err-list-clause-kept : goal.returns-in_err-list-clause-kept
returns-in_err-list-clause-kept c = anyway c.from_residual-in_err-list.result (array_as_it_was c.args.self.now)

pub returns-in_err-append-clause-kept : goal.returns-in_err-append-clause-kept
returns-in_err-append-clause-kept c = anyway c.from_residual-in_err-append.result (array_unpacked c.args.self.now c.in_ok-list.list.now c.append.new.self c.in_ok-list.ensures.list c.in_ok-list.ensures.children c.in_err-append.ensures.items)
