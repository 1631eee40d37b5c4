use Rattle.std.proofs.Common.{◌≡◌, [], length, map}
use denote.Text.{Utf8}
use denote.Shadow.{shadow}
use Rattle.json_query.specs.Models.{segment_of}
use Rattle.json_query.specs.TextStates.{after_segment, outcome}
use Rattle.json_query.proofs.parse.read_segments.Given as goal

abbrev pub invariant-segments : goal.invariant-segments
invariant-segments l = record {
  text : shadow (Utf8 l.rest);
  read : outcome (after_segment []) l.fn.text ≡ outcome (after_segment (map segment_of l.segments.items)) l.rest;
}

abbrev pub decreases-segments : goal.decreases-segments
decreases-segments l = length l.rest
