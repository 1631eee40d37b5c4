use Rattle.std.proofs.Common.{◌≡◌, sym, ap, ◌∙◌}
use Rattle.std.proofs.lemmas.Result.{IfOk-weaker}
use Rattle.std.specs.Prelude.{option_map}
use Rattle.std.specs.Result.{result_ok}
use Rattle.json_value.specs.Denotes.{tree_of}
use Rattle.json_value.specs.Edits.{edit_of}
use Rattle.json_value.specs.Seen.{seen}
use Rattle.json_value.specs.TargetParts.{target_along}
use Rattle.json_value.specs.ViewTargets.{whole_value}
use Rattle.json_history.specs.Change.{change}
use Rattle.json_history.specs.ChangeTrees.{tree_change_of}
use Rattle.json_history.specs.Target.{change_in}
use Rattle.json_history.proofs.EditChanges.{change_at_target, change_missing}
use Rattle.json_history.proofs.edit_change.change_of_edit.Goals as goal

pub returns-in-Some-clause-tree_change : goal.returns-in-Some-clause-tree_change
returns-in-Some-clause-tree_change c =
    IfOk-weaker c.change_at.result (λ o. option_map tree_change_of o ≡ result_ok (change_in c.args.edit.now (seen c.in-Some.target))) (λ o. option_map tree_change_of o ≡ result_ok (change (tree_of c.args.value.now) (edit_of c.args.edit.now)))
    (λ o e. e ∙ ap result_ok (sym (change_at_target c.args.edit.now _ (tree_of c.args.value.now) (seen c.in-Some.target) (c.steps.ensures ∙ c.path.ensures.steps) (sym c.in-Some.ensures.tree))))
    c.change_at.ensures.tree_change

pub returns-in-None-clause-tree_change : goal.returns-in-None-clause-tree_change
returns-in-None-clause-tree_change c = change_missing c.args.edit.now _ (tree_of c.args.value.now) (c.steps.ensures ∙ c.path.ensures.steps) (sym c.in-None.ensures.tree)

pub returns-in-Some-clause-shares : goal.returns-in-Some-clause-shares
returns-in-Some-clause-shares c =
    let root = whole_value c.args.value.now in
    c.change_at.ensures.shares root (ap (λ p. target_along p root) (sym (c.steps.ensures ∙ c.path.ensures.steps)) ∙ sym c.in-Some.ensures.target)
