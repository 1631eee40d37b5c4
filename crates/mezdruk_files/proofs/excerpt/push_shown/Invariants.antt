use Rattle.std.proofs.Common.{◌≡◌, ◌++◌, map, take}
use Rattle.mezdruk_files.specs.Excerpts.{excerpt_byte}
use Rattle.mezdruk_files.proofs.excerpt.push_shown.Given as goal

abbrev pub invariant-loop-byte : goal.invariant-loop-byte
invariant-loop-byte l = l.text.items ≡ l.fn.text.items ++ map excerpt_byte (take l.byte-index l.part)
