use Rattle.std.proofs.Common.{◌≡◌, ◌^◌, ◌<◌, ◌≤◌, Bool, length}
use denote.Text.{Utf8}
use denote.Shadow.{shadow}
use Rattle.json_query.specs.TextStates.{Brackets, IntegerRole, in_integer, outcome}
use Rattle.json_query.proofs.integers.read_digits.Given as goal

abbrev pub invariant-digits : goal.invariant-digits
invariant-digits l = record {
  text : shadow (Utf8 l.rest);
  exact : l.value < 2 ^ 53;
  read : (r : IntegerRole) (o : Brackets) (negative : Bool) → outcome (in_integer r o negative l.fn.first) l.fn.text ≡ outcome (in_integer r o negative l.value) l.rest;
  within : length l.rest ≤ length l.fn.text;
}

abbrev pub decreases-digits : goal.decreases-digits
decreases-digits l = length l.rest
