use Rattle.std.proofs.Common.{take}
use Rattle.reshape.specs.Gathering.{Gathered}
use Rattle.reshape.proofs.options.gather.Given as goal

abbrev pub invariant-words : goal.invariant-words
invariant-words l = Gathered (take l.i l.words) l.options
