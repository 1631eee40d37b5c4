use Rattle.mezdruk_help.specs.Usage.{IsFree}
use Rattle.mezdruk_help.proofs.first_invalid.excluding.Given as goal

abbrev pub invariant-earlier : goal.invariant-earlier
invariant-earlier l = IsFree l.usage l.words l.i l.group
