use Rattle.std.proofs.Common.{sym}
use Rattle.json_value.proofs.WholeTrees.{object_in}
use Rattle.json_access.proofs.Members.{members_found}
use Rattle.json_access.proofs.container_trait.ValueJsonContainerTrait.as_object.Goals as goal

pub returns-in-Object-clause-pairs : goal.returns-in-Object-clause-pairs
returns-in-Object-clause-pairs c = members_found _ _ (sym (object_in c.args.self.now c.in-Object.object c.in-Object.is))
