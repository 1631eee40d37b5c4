use Rattle.std.proofs.Common.{◌≡◌, true, is_some, drop, take}
use Rattle.std.specs.List.{list_all}
use Rattle.json_value.specs.SameMembers.{keys_in}
use Rattle.json_value.specs.Left.{members_left}
use Rattle.json_value.specs.Seen.{members_seen, first_of}
use Rattle.json_value.proofs.equality.has_keys.Given as goal

abbrev pub invariant-loop-step : goal.invariant-loop-step
invariant-loop-step l = (drop l.step (members_seen l.fn.second) ≡ members_left l.members) × (list_all (λ k. is_some (first_of k (members_seen l.fn.first))) (take l.step (keys_in (members_seen l.fn.second))) ≡ true)
