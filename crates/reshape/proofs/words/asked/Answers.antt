use Rattle.reshape.proofs.Gathering.{gathered_indent, gathered_depth}
use Rattle.reshape.proofs.words.asked.Goals as goal

pub rules-requires : goal.rules-requires
rules-requires c = gathered_depth c.args.words.now _ _ _ _ _ c.in-Some-gather.ensures

pub new-style-requires : goal.new-style-requires
new-style-requires c = gathered_indent c.args.words.now _ _ _ _ _ c.in-Some-gather.ensures
