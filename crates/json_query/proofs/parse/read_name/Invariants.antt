use Rattle.std.proofs.Common.{◌≡◌, ◌≤◌, List, [], Bool, length, string_bytes}
use denote.Text.{Utf8}
use denote.Shadow.{shadow}
use Rattle.json_query.specs.Query.{Segment}
use Rattle.json_query.specs.TextStates.{in_name, outcome}
use Rattle.json_query.proofs.parse.read_name.Given as goal

abbrev pub invariant-characters : goal.invariant-characters
invariant-characters l = record {
  text : shadow (Utf8 l.rest);
  read : (qs : List Segment) (descends : Bool) → outcome (in_name qs descends []) l.fn.text ≡ outcome (in_name qs descends (string_bytes l.name)) l.rest;
  within : length l.rest ≤ length l.fn.text;
}

abbrev pub decreases-characters : goal.decreases-characters
decreases-characters l = length l.rest
