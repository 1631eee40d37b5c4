use Rattle.std.proofs.Common.{refl, ap, ◌∙◌}
use Rattle.json_value.specs.Merged.{with_members}
use Rattle.json_value.proofs.AppliedTrees.{anyway}
use Rattle.json_containers.proofs.Stays.{object_as_it_was, object_unpacked}
use Rattle.json_containers.proofs.object.ObjectObjectCalls.extend.Goals as goal

pub returns-clause-children : goal.returns-clause-children
returns-clause-children c =
    let copies = c.in_ok-copies.copies in
    let put = c.put_pairs.ensures.members ∙ ap (with_members copies.items) c.reserve.ensures.items in
    record { first = c.in_ok-list.list.now.items; list = c.put_pairs.new.pairs; same = c.in_ok-list.ensures.pairs; unpacked = c.in_ok-list.ensures.children; is = refl; changed = (copies.items, c.in_ok-copies.ensures.copies, put) }

pub returns-in_err-copies-clause-kept : goal.returns-in_err-copies-clause-kept
returns-in_err-copies-clause-kept c = anyway c.from_residual.result (object_as_it_was c.args.self.now)

pub returns-in_err-list-clause-kept : goal.returns-in_err-list-clause-kept
returns-in_err-list-clause-kept c = anyway c.from_residual-in_err-list.result (object_as_it_was c.args.self.now)

pub returns-in_err-reserve-clause-kept : goal.returns-in_err-reserve-clause-kept
returns-in_err-reserve-clause-kept c = anyway c.from_residual-in_err-reserve.result (object_unpacked c.args.self.now c.in_ok-list.list.now c.reserve.new.self c.in_ok-list.ensures.pairs c.in_ok-list.ensures.children c.reserve.ensures.items)
