use Rattle.std.proofs.Common.{subst, take}
use Rattle.reshape.specs.Gathering.{Gathered}
use Rattle.reshape.proofs.Gathering.{word_taken, word_refused}
use Rattle.reshape.proofs.options.gather.Goals as goal

pub returns-in_err-options : goal.returns-in_err-options
returns-in_err-options c = let no = word_refused c.args.words.now c.words.i c.word.result.now c.word.ensures (λ more. c.in_err-options.ensures.refused (take c.words.i c.args.words.now) more c.words.invariant) in rw c.from_residual.ensures no

pub words-preserved : goal.words-preserved
words-preserved c =
    subst (λ l. Gathered l c.in_ok-options.options) (word_taken c.args.words.now c.words.i c.word.result.now c.word.ensures) (c.in_ok-options.ensures.taken (take c.words.i c.args.words.now) c.words.invariant)
