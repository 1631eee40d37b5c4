use Rattle.std.proofs.Common.{ℕ, List, [], ◌∷◌, ◌++◌, ◌+◌, take, drop, ap, ◌∙◌}
use Rattle.mezdruk_arguments.specs.ArgumentOrder.{moved_first}
use Rattle.mezdruk_arguments.proofs.MovedFirst.{one_moved}
use Rattle.mezdruk_arguments.proofs.argument_order.command_first.Goals as goal

pub returns-clause-ok : goal.returns-clause-ok
returns-clause-ok c =
    let ws = c.args.words.now in let i = c.leading_options-index.result in let n = c.len-2.result in let w = c.word.result.now in
    let command = c.in_ok-push.ensures.ok ∙ ap (λ (l : List (List ℕ)). l ++ w ∷ []) c.new-ordered.ensures in
    let options = c.in_ok-append_words-2.ensures.ok ∙ ap (λ (l : List (List ℕ)). l ++ take i ws) command in
    c.in_ok-append_words-3.ensures.ok ∙ ap (λ (l : List (List ℕ)). l ++ drop (i + 1) (take n ws)) options ∙ one_moved ws i n w c.word.ensures c.len-2.ensures ∙ ap (λ (k : ℕ). moved_first k ws) c.leading_options-index.ensures
