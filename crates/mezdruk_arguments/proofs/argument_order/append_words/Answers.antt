use Rattle.std.proofs.Common.{ℕ, List, [], ◌∷◌, ◌++◌, ap, ◌∙◌}
use Rattle.mezdruk_arguments.proofs.MovedFirst.{one_appended}
use Rattle.mezdruk_arguments.proofs.argument_order.append_words.Goals as goal

pub words-preserved : goal.words-preserved
words-preserved c =
    let w = c.word.result.now in
    c.in_ok-push.ensures.ok ∙ ap (λ (l : List (List ℕ)). l ++ w ∷ []) c.words.invariant ∙ one_appended c.args.ordered.now c.args.words.now c.args.begin c.words.i w c.word.ensures c.words.auto.i
