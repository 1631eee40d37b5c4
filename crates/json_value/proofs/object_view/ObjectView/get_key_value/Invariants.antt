use Rattle.std.proofs.Common.{◌≡◌}
use Rattle.json_value.specs.Left.{members_left, members_targets_left}
use Rattle.json_value.specs.Seen.{members_seen, first_of}
use Rattle.json_value.specs.TargetParts.{members_targets}
use Rattle.json_value.proofs.object_view.ObjectView.get_key_value.Given as goal

abbrev pub invariant-loop-found : goal.invariant-loop-found
invariant-loop-found l =
    (goal.iterator-loop-found).can_next l.found-iterator × (goal.iterator-loop-found).is_finite l.found-iterator
    × (first_of l.key (members_seen l.fn.self) ≡ first_of l.key (members_left l.found-iterator)) × (first_of l.key (members_targets l.fn.self) ≡ first_of l.key (members_targets_left l.found-iterator))
