use Rattle.std.proofs.Common.{rules}
use Rattle.json_print.proofs.Members.{hold_more}
use Rattle.json_print.proofs.sorted.SortedObject.file.Goals as goal

pub invariant_of-self-2 : goal.invariant_of-self-2
invariant_of-self-2 c = rw c.in_ok-push.ensures.items (hold_more _ _ _ _ _ _ _ (search rules) (search rules) c.self.invariant)
