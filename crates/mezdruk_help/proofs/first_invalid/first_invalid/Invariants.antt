use Rattle.std.proofs.Common.{ℕ, ◌<◌}
use Rattle.mezdruk_help.specs.Usage.{FitsAt}
use Rattle.mezdruk_help.proofs.first_invalid.first_invalid.Given as goal

abbrev pub invariant-words : goal.invariant-words
invariant-words l = (j : ℕ) → j < l.i → FitsAt l.usage l.words j
