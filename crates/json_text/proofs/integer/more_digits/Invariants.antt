use Rattle.std.proofs.Common.{◌-◌, ◌≡◌, ◌<◌, ◌≤◌, ◌^◌, true}
use Rattle.std.specs.Str.{all_ascii_digits}
use Rattle.std.specs.Str.Parse.{digits_value}
use Rattle.json_grammar.specs.Given.{piece}
use Rattle.json_text.proofs.integer.more_digits.Given as goal

-- the digits so far
abbrev pub invariant-digits : goal.invariant-digits
invariant-digits l = record {
  order : l.from ≤ l.at;
  within : l.at ≤ l.limit;
  digits : all_ascii_digits (piece l.bytes l.from l.at) ≡ true;
  value : l.value ≡ digits_value 10 (piece l.bytes l.from l.at);
  few : l.value < 10 ^ (l.at - l.from);
}

abbrev pub decreases-digits : goal.decreases-digits
decreases-digits l = l.limit - l.at
