use Rattle.std.proofs.Common.{inr, refl, ap, ◌∙◌}
use Rattle.json_value.proofs.AppliedTrees.{anyway}
use Rattle.json_history.specs.Restores.{with_restored_members}
use Rattle.json_history.proofs.restore.insert_into_object.Goals as goal

pub returns-in_err-reserve-clause-untouched : goal.returns-in_err-reserve-clause-untouched
returns-in_err-reserve-clause-untouched c =
    let pairs = c.in_ok-pairs.pairs.now in
    anyway _ (inr (record { first = pairs.items; list = c.reserve.new.self; same = c.in_ok-pairs.ensures.pairs; unpacked = c.in_ok-pairs.ensures.children; is = refl; changed = c.reserve.ensures.items }))

pub returns-clause-touched : goal.returns-clause-touched
returns-clause-touched c =
    let pairs = c.in_ok-pairs.pairs.now in
    let members = c.in_ok-members.members.items in
    record {
      first = pairs.items;
      list = c.insert_reserved_members.new.pairs;
      same = c.in_ok-pairs.ensures.pairs;
      unpacked = c.in_ok-pairs.ensures.children;
      is = refl;
      changed = (members, c.in_ok-members.ensures.origins, c.insert_reserved_members.ensures.items ∙ ap (with_restored_members members) c.reserve.ensures.items);
    }
