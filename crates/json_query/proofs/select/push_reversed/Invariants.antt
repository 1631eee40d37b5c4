use Rattle.std.proofs.Common.{◌≡◌, ◌++◌, map, reverse, vec_len}
use Rattle.json_query.specs.ViewedNodes.{viewed}
use Rattle.json_query.proofs.select.push_reversed.Given as goal

-- the views so far, and those left in reverse
abbrev pub invariant-views : goal.invariant-views
invariant-views l = map viewed l.found.items ++ reverse (map viewed l.views.items) ≡ map viewed l.fn.found.items ++ reverse (map viewed l.fn.views.items)

abbrev pub decreases-views : goal.decreases-views
decreases-views l = vec_len l.views
