use Rattle.std.proofs.Common.{◌≡◌, ◌≤◌, List, Bool, length, map}
use denote.Text.{Utf8}
use denote.Shadow.{shadow}
use Rattle.json_query.specs.Models.{selector_of}
use Rattle.json_query.specs.Query.{Segment}
use Rattle.json_query.specs.Reading.{holding}
use Rattle.json_query.specs.TextStates.{before_selector, opened, outcome}
use Rattle.json_query.proofs.parse.read_bracketed.Given as goal

abbrev pub invariant-selectors : goal.invariant-selectors
invariant-selectors l = record {
  text : shadow (Utf8 l.rest);
  read : (qs : List Segment) (descends : Bool) → outcome (before_selector (opened qs descends)) l.fn.text ≡ outcome (before_selector (holding qs descends (map selector_of l.selectors.items))) l.rest;
  within : length l.rest ≤ length l.fn.text;
}

abbrev pub decreases-selectors : goal.decreases-selectors
decreases-selectors l = length l.rest
