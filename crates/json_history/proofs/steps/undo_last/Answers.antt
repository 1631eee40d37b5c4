use Rattle.std.proofs.Common.{[], ◌∷◌, ◌++◌, subst, ap, ◌∙◌}
use Rattle.json_history.specs.History.{IsValidLog}
use Rattle.json_history.specs.Logs.{log_in}
use Rattle.json_history.specs.declared.redo.Redo.{Redo}
use Rattle.json_history.proofs.LogSteps.{last_change_undone, last_change_redo_edit}
use Rattle.std.proofs.Common.{inr}
use Rattle.json_history.proofs.steps.undo_last.Goals as goal

pub undo_change-requires-clause-undone : goal.undo_change-requires-clause-undone
undo_change-requires-clause-undone c =
    last_change_undone c.args.value.now c.pop.new.self.items c.in-Some.change c.args.redos.now.items
    (subst (λ cs. ∥ IsValidLog (log_in c.args.value.now cs c.args.redos.now.items) ∥₁) c.in-Some.ensures.items c.requires)

pub undo_change-requires-clause-again : goal.undo_change-requires-clause-again
undo_change-requires-clause-again c =
    last_change_redo_edit c.args.value.now c.pop.new.self.items c.in-Some.change c.args.redos.now.items
    (subst (λ cs. ∥ IsValidLog (log_in c.args.value.now cs c.args.redos.now.items) ∥₁) c.in-Some.ensures.items c.requires)

pub returns-in_ok-push-in-Ok-clause-children : goal.returns-in_ok-push-in-Ok-clause-children
returns-in_ok-push-in-Ok-clause-children c = inr (c.pop.new.self.items, c.in-Some.change, c.in-Some.ensures.items, c.in-Ok.ensures.children)

pub returns-in_ok-push-in-Ok-clause-moves : goal.returns-in_ok-push-in-Ok-clause-moves
returns-in_ok-push-in-Ok-clause-moves c =
    let r : Redo = record { edit = c.in-Ok.edit; change = c.in-Some.change } in
    inr (r, c.in-Some.ensures.items, c.in_ok-push-in-Ok.ensures.items ∙ ap (λ rs. rs ++ r ∷ []) c.in-Ok.ensures.redos, c.in-Ok.ensures.shares)
