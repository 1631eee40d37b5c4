use Rattle.std.proofs.Common.{◌≡◌, ◌≤◌, drop, take}
use Rattle.mezdruk_programs.proofs.program.later_words.Given as goal

abbrev pub invariant-loop-i : goal.invariant-loop-i
invariant-loop-i l = record {
  copied : l.later ≡ drop 1 (take l.i l.words);
  from : 1 ≤ l.i;
}
