use Rattle.std.proofs.Common.{◌≡◌, ◌+◌, false, drop}
use Rattle.mezdruk_arguments.specs.ArgumentOrder.{leading_options}
use Rattle.mezdruk_arguments.proofs.argument_order.leading_options.Given as goal

abbrev pub invariant-words : goal.invariant-words
invariant-words l = leading_options false l.words ≡ l.i + leading_options l.is_value (drop l.i l.words)
