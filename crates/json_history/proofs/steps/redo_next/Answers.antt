use Rattle.std.proofs.Common.{[], ◌∷◌, ◌++◌, subst, ap, ◌∙◌}
use Rattle.json_history.specs.History.{IsValidLog}
use Rattle.json_history.specs.Logs.{log_in}
use Rattle.json_history.proofs.LogSteps.{next_redo_applies}
use Rattle.std.proofs.Common.{inr}
use Rattle.json_history.proofs.steps.redo_next.Goals as goal

pub reapply-requires : goal.reapply-requires
reapply-requires c =
    next_redo_applies c.args.value.now c.args.changes.now.items c.pop.new.self.items c.in-Some.redo
    (subst (λ rs. ∥ IsValidLog (log_in c.args.value.now c.args.changes.now.items rs) ∥₁) c.in-Some.ensures.items c.requires)

pub returns-in_ok-push-in-Ok-clause-children : goal.returns-in_ok-push-in-Ok-clause-children
returns-in_ok-push-in-Ok-clause-children c = inr (c.pop.new.self.items, c.in-Some.redo, c.in-Some.ensures.items, c.in-Ok.ensures.children)

pub returns-in_ok-push-in-Ok-clause-moves : goal.returns-in_ok-push-in-Ok-clause-moves
returns-in_ok-push-in-Ok-clause-moves c =
    let r = c.in-Some.redo in
    inr (r, c.in-Some.ensures.items, c.in_ok-push-in-Ok.ensures.items ∙ ap (λ cs. cs ++ r.change ∷ []) c.in-Ok.ensures.changes)
