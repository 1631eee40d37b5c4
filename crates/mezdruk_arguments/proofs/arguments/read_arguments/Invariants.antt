use Rattle.std.proofs.Common.{take}
use Rattle.mezdruk_arguments.specs.CommandLine.{nothing_asked, MayFollowAll, with_arguments}
use Rattle.mezdruk_arguments.specs.Line.{HoldsAsked}
use Rattle.mezdruk_arguments.proofs.arguments.read_arguments.Given as goal

abbrev pub invariant-words : goal.invariant-words
invariant-words l = record {
  follow : MayFollowAll nothing_asked (take l.i l.words);
  holds : HoldsAsked l.line (with_arguments nothing_asked (take l.i l.words));
}
