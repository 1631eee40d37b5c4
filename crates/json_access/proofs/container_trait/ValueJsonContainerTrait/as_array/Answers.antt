use Rattle.std.proofs.Common.{sym}
use Rattle.json_value.proofs.WholeTrees.{array_in}
use Rattle.json_access.proofs.Members.{elements_found}
use Rattle.json_access.proofs.container_trait.ValueJsonContainerTrait.as_array.Goals as goal

pub returns-in-Array-clause-list : goal.returns-in-Array-clause-list
returns-in-Array-clause-list c = elements_found _ _ (sym (array_in c.args.self.now c.in-Array.array c.in-Array.is))
