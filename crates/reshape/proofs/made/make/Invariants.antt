use Rattle.std.proofs.Common.{◌≡◌, ◌++◌, codes}
use Rattle.std.specs.List.{range_with_len}
use Rattle.reshape.specs.Made.{made_records}
use Rattle.reshape.proofs.made.make.Given as goal

abbrev pub invariant-records : goal.invariant-records
invariant-records l = l.text.items ≡ codes "[" ++ made_records (range_with_len 0 l.number)
