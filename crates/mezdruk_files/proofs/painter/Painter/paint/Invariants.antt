use Rattle.std.proofs.Common.{take}
use Rattle.mezdruk_files.specs.Colors.{AppendsPainted}
use Rattle.mezdruk_files.proofs.painter.Painter.paint.Given as goal

abbrev pub invariant-loop-byte : goal.invariant-loop-byte
invariant-loop-byte l = AppendsPainted (take l.byte-index l.bytes) l.fn.painted.items l.painted.items
