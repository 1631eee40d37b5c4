use Rattle.std.proofs.Common.{refl}
use Rattle.json_containers.proofs.Entries.{written, value_there}
use Rattle.json_containers.proofs.entry.value_mut_at.Goals as goal

pub returns : goal.returns
returns c =
    let o = c.args.object.now in
    let v = c.owned_mut-pairs.result.now in
    let m = c.index_mut.result.now in
    ((refl, written o v c.owned_mut-pairs.ensures.value c.args.at m c.requires c.index_mut.ensures.value), record { writes_back = tt; value = value_there o v c.owned_mut-pairs.ensures.value c.args.at m c.requires c.index_mut.ensures.value c.value_mut.result.now c.value_mut.ensures.value })
