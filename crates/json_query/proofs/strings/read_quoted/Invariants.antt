use Rattle.std.proofs.Common.{◌≡◌, ◌≤◌, [], length, string_bytes}
use denote.Text.{Utf8}
use denote.Shadow.{shadow}
use Rattle.json_query.specs.TextStates.{Brackets, in_string, outcome}
use Rattle.json_query.proofs.strings.read_quoted.Given as goal

abbrev pub invariant-characters : goal.invariant-characters
invariant-characters l = record {
  text : shadow (Utf8 l.rest);
  read : (o : Brackets) → outcome (in_string l.fn.mark o []) l.fn.text ≡ outcome (in_string l.fn.mark o (string_bytes l.characters)) l.rest;
  within : length l.rest ≤ length l.fn.text;
}

abbrev pub decreases-characters : goal.decreases-characters
decreases-characters l = length l.rest
