use Rattle.std.proofs.Common.{◌≡◌, ◌++◌, map}
use Rattle.json_query.specs.ViewedNodes.{viewed, members_viewed, member_values, with_name}
use Rattle.json_query.proofs.ViewedParts.{members_to_view}
use Rattle.json_query.proofs.select.push_each_named.Given as goal

-- the values so far, and those of the members left that have the name
abbrev pub invariant-members : goal.invariant-members
invariant-members l =
    map viewed l.found.items ++ member_values (with_name l.fn.name (members_to_view l.key-iterator)) ≡ map viewed l.fn.found.items ++ member_values (with_name l.fn.name (members_viewed l.fn.object))
