use Rattle.json_value.specs.Seen.{seen}
use Rattle.json_value.proofs.GivenTrees.{seen_proper}
use Rattle.json_write.proofs.TreeData.{tree_written}
use Rattle.json_write.proofs.values.ViewSerialize.serialize.Goals as goal

pub returns : goal.returns
returns g c = tree_written (seen c.args.self.now) (seen_proper c.args.self.now) c.emit.ensures.given
