use Rattle.std.proofs.Common.{[], ◌∷◌, ◌++◌, refl, ap, ◌∙◌}
use Rattle.json_value.specs.Written.{value_in}
use Rattle.json_containers.proofs.Entries.{its_member, put_more}
use Rattle.json_containers.proofs.entry.VacantEntry.insert.Goals as goal

pub returns : goal.returns
returns c =
    let e = c.args.self in
    let v = c.owned_mut-pairs.result.now in
    let n = c.add_member.new.pairs in
    let more = c.add_member.ensures.items ∙ ap (λ k. v.items ++ k ∷ []) c.new.ensures.member in
    let m = c.index_mut.result.now in
    let member = its_member v n e.key c.args.val c.add_member.ensures.block c.add_member.ensures.len more c.len-at.result c.len-at.ensures m c.index_mut.ensures.value in
    ((refl, put_more v n e.key c.args.val c.add_member.ensures.block c.add_member.ensures.len more c.len-at.result c.len-at.ensures m c.index_mut.ensures.value e.object.now c.owned_mut-pairs.ensures.value e.reserved), record { writes_back = tt; value = c.value_mut.ensures.value ∙ ap value_in member })
