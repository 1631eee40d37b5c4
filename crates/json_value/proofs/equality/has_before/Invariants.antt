use Rattle.std.proofs.Common.{◌≡◌, false, bytes_eq, drop, take}
use Rattle.std.specs.List.{list_any}
use Rattle.json_value.specs.SameMembers.{keys_in}
use Rattle.json_value.specs.Left.{members_left}
use Rattle.json_value.specs.Seen.{members_seen}
use Rattle.json_value.proofs.equality.has_before.Given as goal

abbrev pub invariant-loop-step : goal.invariant-loop-step
invariant-loop-step l = (drop l.step (members_seen l.fn.object) ≡ members_left l.members) × (list_any (λ k. bytes_eq k l.fn.key) (take l.step (keys_in (members_seen l.fn.object))) ≡ false)
