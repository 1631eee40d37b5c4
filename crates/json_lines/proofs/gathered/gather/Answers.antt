use Rattle.std.proofs.Common.{subst, take}
use Rattle.json_lines.specs.Tables.{Gathered}
use Rattle.json_lines.proofs.GatheredWords.{word_taken, word_refused}
use Rattle.json_lines.proofs.gathered.gather.Goals as goal

pub returns-in_err-gathered : goal.returns-in_err-gathered
returns-in_err-gathered c =
    let no = word_refused c.args.words.now c.words.i c.word.result.now c.word.ensures (λ more. c.in_err-gathered.ensures.refused (take c.words.i c.args.words.now) more c.words.invariant) in
    rw c.from_residual.ensures no

pub words-preserved : goal.words-preserved
words-preserved c =
    subst (λ l. Gathered l c.in_ok-gathered.gathered) (word_taken c.args.words.now c.words.i c.word.result.now c.word.ensures) (c.in_ok-gathered.ensures.taken (take c.words.i c.args.words.now) c.words.invariant)
