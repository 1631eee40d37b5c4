use Rattle.std.proofs.Common.{sym}
use Rattle.json_value.proofs.WholeTrees.{object_in}
use Rattle.json_value.proofs.value.Value.as_ref.Goals as goal

pub returns-in-Object-clause-tree : goal.returns-in-Object-clause-tree
returns-in-Object-clause-tree c = sym (object_in _ c.in-Object.object c.in-Object.is)
