use Rattle.std.proofs.Common.{◌≡◌, ◌++◌, take}
use Rattle.std.specs.List.{flat_map}
use Rattle.mezdruk_files.specs.Excerpts.{space_under}
use Rattle.mezdruk_files.proofs.excerpt.push_spaces.Given as goal

abbrev pub invariant-loop-byte : goal.invariant-loop-byte
invariant-loop-byte l = l.text.items ≡ l.fn.text.items ++ flat_map space_under (take l.byte-index l.part)
