use Rattle.std.proofs.Common.{◌≡◌, map, drop, [], ◌∷◌}
use Rattle.json_query.specs.Models.{segment_of}
use Rattle.json_query.specs.ViewedNodes.{viewed, segments_viewed}
use Rattle.json_query.proofs.query.Query.select.Given as goal

-- the segments left select of the values so far what all of them select of the root
abbrev pub invariant-loop-segment : goal.invariant-loop-segment
invariant-loop-segment l =
    segments_viewed (map segment_of (drop l.segment-index l.self.segments.items)) (map viewed l.views.items) ≡ segments_viewed (map segment_of l.self.segments.items) (viewed l.fn.root ∷ [])
