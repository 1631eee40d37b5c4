use Rattle.std.proofs.Common.{◌≡◌, ◌≤◌, ◌<◌, ◌-◌, ◌^◌, length, drop, take}
use Rattle.std.specs.Str.{all_ascii_digits}
use Rattle.std.specs.Str.Parse.{digits_value}
use Rattle.json_number.proofs.any_width.short_value.Given as goal

-- the digits so far
abbrev pub invariant-digits : goal.invariant-digits
invariant-digits l = record {
  inside : l.at ≤ length l.digits;
  rest : all_ascii_digits (drop l.at l.digits) ≡ all_ascii_digits l.digits;
  worth : l.value ≡ digits_value 10 (take l.at l.digits);
  few : l.value < 10 ^ l.at;
}

abbrev pub decreases-digits : goal.decreases-digits
decreases-digits l = length l.digits - l.at
