use Rattle.json_containers.proofs.Entries.{value_read_there}
use Rattle.json_containers.proofs.entry.OccupiedEntry.get.Goals as goal

pub returns : goal.returns
returns c =
    let o = c.args.self.now in
    value_read_there o.object.now o.at c.in-Some.pairs.now c.index-pairs-self.result c.value.result.now o.within c.in-Some.ensures.items c.index-pairs-self.is c.value.ensures.value
