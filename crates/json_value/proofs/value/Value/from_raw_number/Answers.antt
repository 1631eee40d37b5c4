use Rattle.json_value.proofs.Integers.{raw_number_tree}
use Rattle.json_value.proofs.value.Value.from_raw_number.Goals as goal

pub returns-in-Some-clause-tree : goal.returns-in-Some-clause-tree
returns-in-Some-clause-tree c = raw_number_tree c.args.n c.in-Some.integer c.in-Some.ensures
