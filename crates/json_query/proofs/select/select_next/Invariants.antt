use Rattle.std.proofs.Common.{◌≡◌, ◌++◌, map, drop, flat_map}
use Rattle.json_query.specs.Models.{segment_of}
use Rattle.json_query.specs.ViewedNodes.{viewed, segment_viewed}
use Rattle.json_query.proofs.select.select_next.Given as goal

-- what is selected so far, and of the values left
abbrev pub invariant-loop-view : goal.invariant-loop-view
invariant-loop-view l =
    map viewed l.found.items ++ flat_map (segment_viewed (segment_of l.segment)) (map viewed (drop l.view-index l.views)) ≡ flat_map (segment_viewed (segment_of l.segment)) (map viewed l.views)
