use Rattle.std.proofs.Common.{take}
use Rattle.json_lines.specs.Tables.{Gathered}
use Rattle.json_lines.proofs.gathered.gather.Given as goal

abbrev pub invariant-words : goal.invariant-words
invariant-words l = Gathered (take l.i l.words) l.gathered
