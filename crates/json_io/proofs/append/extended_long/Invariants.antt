use Rattle.std.proofs.Common.{◌≡◌, ◌≤◌, ◌+◌, ◌-◌, ◌++◌, length, take, vec_len, vec_capacity}
use Rattle.json_io.proofs.append.extended_long.Given as goal

abbrev pub invariant-rest : goal.invariant-rest
invariant-rest l = record {
  within : l.at ≤ length l.bytes;
  items : l.out.items ≡ l.fn.out.items ++ take l.at l.bytes;
  len : vec_len l.out ≡ vec_len l.fn.out + l.at;
  capacity : vec_capacity l.out ≡ vec_capacity l.fn.out;
}

abbrev pub decreases-rest : goal.decreases-rest
decreases-rest l = length l.bytes - l.at
