use Rattle.std.proofs.Common.{◌≡◌, ◌++◌, take, drop}
use Rattle.mezdruk_arguments.proofs.argument_order.append_words.Given as goal

abbrev pub invariant-words : goal.invariant-words
invariant-words l = l.ordered ≡ l.fn.ordered ++ drop l.begin (take l.i l.words)
