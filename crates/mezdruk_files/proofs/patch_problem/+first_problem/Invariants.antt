use Rattle.std.proofs.Common.{length}
use Rattle.mezdruk_files.proofs.patch_problem.+first_problem.Given as goal

abbrev pub decreases-first_problem : goal.decreases-first_problem
decreases-first_problem l = length l.needed.now
