use Rattle.std.proofs.Common.{rules, below_more}
use Rattle.mezdruk_help.proofs.first_invalid.first_invalid.Goals as goal

pub words-preserved : goal.words-preserved
words-preserved c = below_more _ _ c.words.invariant (search rules)
