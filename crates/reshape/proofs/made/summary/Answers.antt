use Rattle.std.proofs.Common.{sym, subst, ◌∙◌, rules}
use Rattle.json_text.specs.Ruled.{usual_rules}
use Rattle.json_command.specs.Input.{IsInput}
use Rattle.reshape.proofs.MadeInput.{made_tree, made_input}
use Rattle.reshape.proofs.made.summary.Goals as goal

-- made input is valid, so only memory can be lacking
pub returns-in_err-output-clause-err : goal.returns-in_err-output-clause-err
returns-in_err-output-clause-err c =
    let input = subst (λ b. IsInput usual_rules b (made_tree c.args.records)) (sym (c.deref.ensures.value ∙ c.in_ok-input.ensures.ok)) (made_input c.args.records c.requires) in
    let lacks = c.in_err-output.ensures.err (made_tree c.args.records) input in
    search (rules, lacks)
