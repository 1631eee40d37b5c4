use Rattle.std.proofs.Common.{map}
use Rattle.json_value.specs.Denotes.{tree_of}
use Rattle.json_value.specs.Left.{elements_left}
use Rattle.json_value.specs.Seen.{elements_seen}
use Rattle.json_rpc.specs.Denoted.{tree_history}
use Rattle.json_rpc.proofs.Batches.{Underway, LeavesHistory}
use Rattle.json_rpc.proofs.serve.serve_members.Given as goal

abbrev pub invariant-members : goal.invariant-members
invariant-members l =
    (goal.iterator-members).can_next l.member-iterator × (goal.iterator-members).is_finite l.member-iterator
    × Underway (tree_history l.fn.history) (elements_seen l.fn.members) (elements_left l.member-iterator) (tree_history l.history) (map tree_of l.replies.items)
    × LeavesHistory (elements_seen l.fn.members) (elements_left l.member-iterator) l.fn.history l.history
