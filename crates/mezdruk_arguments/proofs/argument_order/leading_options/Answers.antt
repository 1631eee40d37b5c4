use Rattle.std.proofs.Common.{◌∙◌, sym}
use Rattle.mezdruk_arguments.proofs.LeadingOptions.{option_passed, command_found}
use Rattle.mezdruk_arguments.proofs.argument_order.leading_options.Goals as goal

pub returns-then-not-precedes_command : goal.returns-then-not-precedes_command
returns-then-not-precedes_command c =
    command_found c.args.words.now c.words.i c.word-word.result.now c.words.is_value c.word-word.ensures (sym c.precedes_command.ensures ∙ c.if-not-precedes_command.true) c.words.invariant

pub words-preserved : goal.words-preserved
words-preserved c =
    let passed = option_passed c.args.words.now c.words.i c.word-word.result.now c.words.is_value c.word-word.ensures (sym c.precedes_command.ensures ∙ c.if-not-precedes_command.false) c.words.invariant in
    rw c.value_follows-is_value.ensures passed
