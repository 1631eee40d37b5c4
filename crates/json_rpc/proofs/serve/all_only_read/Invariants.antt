use Rattle.json_value.specs.Left.{elements_left}
use Rattle.json_value.specs.Seen.{elements_seen}
use Rattle.json_rpc.proofs.Batches.{ReadSoFar}
use Rattle.json_rpc.proofs.serve.all_only_read.Given as goal

abbrev pub invariant-members : goal.invariant-members
invariant-members l =
    (goal.iterator-members).can_next l.member-iterator × (goal.iterator-members).is_finite l.member-iterator
    × ReadSoFar (elements_seen l.fn.members) (elements_left l.member-iterator)
