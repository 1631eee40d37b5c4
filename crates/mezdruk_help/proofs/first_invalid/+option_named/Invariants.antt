use Rattle.std.proofs.Common.{length}
use Rattle.mezdruk_help.proofs.first_invalid.+option_named.Given as goal

abbrev pub decreases-option_named : goal.decreases-option_named
decreases-option_named l = length l.options.now
