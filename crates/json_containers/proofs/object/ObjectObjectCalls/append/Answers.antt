use Rattle.std.proofs.Common.{Vec, Global, refl, ap, ◌∙◌}
use Rattle.json_value.specs.Merged.{with_members}
use Rattle.json_value.specs.declared.pair.Keyed.{Keyed}
use Rattle.json_value.specs.declared.value.Value.{Value}
use Rattle.json_value.proofs.AppliedTrees.{anyway}
use Rattle.json_containers.proofs.Stays.{object_as_it_was, object_unpacked}
use Rattle.json_containers.proofs.object.ObjectObjectCalls.append.Goals as goal

pub returns-clause-children : goal.returns-clause-children
returns-clause-children c =
    let more = c.in_ok-more.more.now in
    let put = c.put_pairs.ensures.members ∙ ap (λ (v : Vec (Keyed Value) Global). with_members v.items c.reserve.new.self.items) c.replace.ensures.value ∙ ap (with_members more.items) c.reserve.ensures.items in
    record { first = c.in_ok-pairs.pairs.now.items; list = c.put_pairs.new.pairs; same = c.in_ok-pairs.ensures.pairs; unpacked = c.in_ok-pairs.ensures.children; is = refl; changed = (more.items, c.in_ok-more.ensures.children, put) }

pub returns-in_err-more-clause-kept : goal.returns-in_err-more-clause-kept
returns-in_err-more-clause-kept c = anyway c.from_residual.result (object_as_it_was c.args.self.now, object_as_it_was c.args.other.now)

pub returns-in_err-pairs-clause-kept : goal.returns-in_err-pairs-clause-kept
returns-in_err-pairs-clause-kept c = anyway c.from_residual-in_err-pairs.result (object_as_it_was c.args.self.now, object_unpacked c.args.other.now c.in_ok-more.more.now c.in_ok-more.more.now c.in_ok-more.ensures.pairs c.in_ok-more.ensures.children refl)

pub returns-in_err-reserve-clause-kept : goal.returns-in_err-reserve-clause-kept
returns-in_err-reserve-clause-kept c = anyway c.from_residual-in_err-reserve.result (object_unpacked c.args.self.now c.in_ok-pairs.pairs.now c.reserve.new.self c.in_ok-pairs.ensures.pairs c.in_ok-pairs.ensures.children c.reserve.ensures.items, object_unpacked c.args.other.now c.in_ok-more.more.now c.in_ok-more.more.now c.in_ok-more.ensures.pairs c.in_ok-more.ensures.children refl)
