use Rattle.std.proofs.Common.{◌≡◌, Some, sym, ap, ◌∙◌}
use Rattle.std.proofs.lemmas.Result.{IfOk-weaker}
use Rattle.std.specs.Prelude.{option_map}
use Rattle.std.specs.Result.{result_ok}
use Rattle.json_model.specs.Edit.{set_at}
use Rattle.json_value.specs.Denotes.{tree_of}
use Rattle.json_value.specs.Edits.{edit_of, path_steps}
use Rattle.json_value.specs.Seen.{seen}
use Rattle.json_value.specs.TargetParts.{target_along}
use Rattle.json_value.specs.ViewTargets.{whole_value}
use Rattle.json_history.specs.Change.{redo_edit, edit_of_last}
use Rattle.json_history.specs.ChangeTrees.{tree_change_of}
use Rattle.json_history.proofs.RepeatedEdits.{put_redo_found, put_redo_missing, drop_redo_found, drop_redo_missing}
use Rattle.json_history.proofs.redo_edits.edit_to_redo.Goals as goal

pub returns-in-Some-clause-edit : goal.returns-in-Some-clause-edit
returns-in-Some-clause-edit c =
    let t = tree_of c.args.value.now in
    let u = seen c.in-Some.target in
    IfOk-weaker c.set_edit.result (λ o. option_map edit_of o ≡ Some (set_at (path_steps c.in-Put.path) u)) (λ o. option_map edit_of o ≡ result_ok (redo_edit t (tree_change_of c.args.change.now)))
    (λ o e. e ∙ put_redo_found c.args.change.now c.in-Put.path _ t c.steps.ensures c.in-Put.old u c.in-Put.is (sym c.in-Some.ensures.tree))
    c.set_edit.ensures.edit

pub returns-in-None-clause-edit : goal.returns-in-None-clause-edit
returns-in-None-clause-edit c = put_redo_missing c.args.change.now c.in-Put.path _ (tree_of c.args.value.now) c.steps.ensures c.in-Put.old c.in-Put.is (sym c.in-None.ensures.tree)

pub returns-in-Some-pointer-clause-edit : goal.returns-in-Some-pointer-clause-edit
returns-in-Some-pointer-clause-edit c =
    let t = tree_of c.args.value.now in
    let u = seen c.in-Some-pointer.target in
    IfOk-weaker c.last_edit.result (λ o. option_map edit_of o ≡ result_ok (edit_of_last (path_steps c.in-DropLast.path) u)) (λ o. option_map edit_of o ≡ result_ok (redo_edit t (tree_change_of c.args.change.now)))
    (λ o e. e ∙ drop_redo_found c.args.change.now c.in-DropLast.path _ t c.steps-in-DropLast.ensures u c.in-DropLast.is (sym c.in-Some-pointer.ensures.tree))
    c.last_edit.ensures.edit

pub returns-in-None-pointer-clause-edit : goal.returns-in-None-pointer-clause-edit
returns-in-None-pointer-clause-edit c = drop_redo_missing c.args.change.now c.in-DropLast.path _ (tree_of c.args.value.now) c.steps-in-DropLast.ensures c.in-DropLast.is (sym c.in-None-pointer.ensures.tree)

pub returns-in-Some-clause-shares : goal.returns-in-Some-clause-shares
returns-in-Some-clause-shares c =
    let root = whole_value c.args.value.now in
    c.set_edit.ensures.shares root (ap (λ p. target_along p root) (sym c.steps.ensures) ∙ sym c.in-Some.ensures.target)

pub returns-in-Some-pointer-clause-shares : goal.returns-in-Some-pointer-clause-shares
returns-in-Some-pointer-clause-shares c =
    let root = whole_value c.args.value.now in
    c.last_edit.ensures.shares root (ap (λ p. target_along p root) (sym c.steps-in-DropLast.ensures) ∙ sym c.in-Some-pointer.ensures.target)
