use Rattle.std.proofs.Common.{[], ◌∷◌, ◌++◌, subst, sym, ap, ◌∙◌}
use Rattle.std.proofs.lemmas.Result.{on_ok_weaker}
use Rattle.std.specs.Prelude.{IfSome, option_map}
use Rattle.json_value.specs.Denotes.{tree_of}
use Rattle.json_value.specs.Edits.{edit_of}
use Rattle.json_value.specs.ViewTargets.{whole_value}
use Rattle.json_history.specs.ChangeTrees.{tree_change_of}
use Rattle.json_history.specs.SharedParts.{SharesParts}
use Rattle.json_history.proofs.LogSteps.{no_change_no_edit}
use Rattle.std.proofs.Common.{refl}
use Rattle.json_value.proofs.AppliedTrees.{anyway}
use Rattle.json_history.proofs.RestoredValues.{edit_same}
use Rattle.json_history.proofs.steps.apply_and_log.Goals as goal

pub returns-in-None-clause-ok : goal.returns-in-None-clause-ok
returns-in-None-clause-ok c =
    on_ok_weaker c.apply_edit-in-None.result
    (λ made. absurd (no_change_no_edit (tree_of c.args.value.now) (tree_of c.apply_edit-in-None.new.value) (edit_of c.args.edit) (ap (option_map tree_change_of) (sym c.in-None.is) ∙ c.in_ok-change.ensures.tree_change) made))
    c.apply_edit-in-None.ensures.ok

pub returns-in_err-change-clause-kept_along : goal.returns-in_err-change-clause-kept_along
returns-in_err-change-clause-kept_along c = anyway _ (edit_same c.args.edit c.args.value.now c.args.value.now refl)

pub returns-in_err-reserve-in-Some-clause-kept_along : goal.returns-in_err-reserve-in-Some-clause-kept_along
returns-in_err-reserve-in-Some-clause-kept_along c = anyway _ (edit_same c.args.edit c.args.value.now c.args.value.now refl)

pub returns-in-None-clause-shares : goal.returns-in-None-clause-shares
returns-in-None-clause-shares c =
    on_ok_weaker c.apply_edit-in-None.result
    (λ made. absurd (no_change_no_edit (tree_of c.args.value.now) (tree_of c.apply_edit-in-None.new.value) (edit_of c.args.edit) (ap (option_map tree_change_of) (sym c.in-None.is) ∙ c.in_ok-change.ensures.tree_change) made))
    c.apply_edit-in-None.ensures.ok

pub returns-in_ok-push-in-Some-clause-shares : goal.returns-in_ok-push-in-Some-clause-shares
returns-in_ok-push-in-Some-clause-shares c =
    let kept = subst (λ o. IfSome o (SharesParts (whole_value c.args.value.now))) c.in-Some.is c.in_ok-change.ensures.shares in
    (c.in-Some.change, c.in_ok-push-in-Some.ensures.items ∙ ap (λ l. l ++ c.in-Some.change ∷ []) c.in_ok-reserve-in-Some.ensures.items, kept)
