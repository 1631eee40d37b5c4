use Rattle.std.proofs.Common.{◌≡◌, ◌++◌, map}
use Rattle.json_query.specs.ViewedNodes.{viewed, members_viewed, member_values}
use Rattle.json_query.proofs.ViewedParts.{members_to_view}
use Rattle.json_query.proofs.select.push_each_member.Given as goal

-- the values so far, and those of the members left
abbrev pub invariant-members : goal.invariant-members
invariant-members l = map viewed l.found.items ++ member_values (members_to_view l.value-iterator) ≡ map viewed l.fn.found.items ++ member_values (members_viewed l.fn.object)
