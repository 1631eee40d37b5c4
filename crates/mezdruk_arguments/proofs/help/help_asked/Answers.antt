use Rattle.std.proofs.Common.{arith, ◌∙◌}
use Rattle.mezdruk_arguments.proofs.HelpAsked.{asked_of_two}
use Rattle.mezdruk_arguments.proofs.help.help_asked.Goals as goal

pub returns-in-text : goal.returns-in-text
returns-in-text c = c.of_word.ensures ∙ asked_of_two c.args.words.now _ _ (omega arith) c.word-in-text.ensures c.word.ensures c.in-text.is
