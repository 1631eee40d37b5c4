use Rattle.std.proofs.Common.{◌≡◌, sym, ◌∙◌}
use Rattle.std.proofs.lemmas.Result.{IfOk-weaker}
use Rattle.std.specs.Prelude.{option_map}
use Rattle.std.specs.Result.{result_ok}
use Rattle.json_grammar.specs.Tree.{list_pairs, list_trees}
use Rattle.json_model.specs.Edit.{within, push_at}
use Rattle.json_value.specs.Edits.{edit_of, path_steps}
use Rattle.json_value.specs.Seen.{seen, members_seen, elements_seen}
use Rattle.json_value.specs.ViewTargets.{view_target}
use Rattle.json_history.specs.Change.{edit_of_last, last_member, last_element}
use Rattle.json_history.proofs.RepeatedEdits.{insert_edit_of, object_last_edit, array_last_edit}
use Rattle.json_history.proofs.redo_edits.last_edit.Goals as goal

pub returns-in-Some-clause-edit : goal.returns-in-Some-clause-edit
returns-in-Some-clause-edit c =
    let p = path_steps c.args.path.now in
    let ms = members_seen c.in-Some.object in
    IfOk-weaker c.last_insert_edit.result (λ o. option_map edit_of o ≡ result_ok (within (insert_edit_of p) (last_member (list_pairs ms)))) (λ o. option_map edit_of o ≡ result_ok (edit_of_last p (seen c.args.target)))
    (λ o e. e ∙ object_last_edit p (seen c.args.target) ms (sym c.in-Some.ensures.trees))
    c.last_insert_edit.ensures.edit

pub returns-in-Some-as_array-clause-edit : goal.returns-in-Some-as_array-clause-edit
returns-in-Some-as_array-clause-edit c =
    let p = path_steps c.args.path.now in
    let ts = elements_seen c.in-Some-as_array.array in
    IfOk-weaker c.last_push_edit.result (λ o. option_map edit_of o ≡ result_ok (within (push_at p) (last_element (list_trees ts)))) (λ o. option_map edit_of o ≡ result_ok (edit_of_last p (seen c.args.target)))
    (λ o e. e ∙ array_last_edit p (seen c.args.target) ts (sym c.in-Some-as_array.ensures.trees))
    c.last_push_edit.ensures.edit

pub returns-in-Some-clause-shares : goal.returns-in-Some-clause-shares
returns-in-Some-clause-shares c = c.last_insert_edit.ensures.shares (view_target c.args.target) (sym c.in-Some.ensures.targets)

pub returns-in-Some-as_array-clause-shares : goal.returns-in-Some-as_array-clause-shares
returns-in-Some-as_array-clause-shares c = c.last_push_edit.ensures.shares (view_target c.args.target) (sym c.in-Some-as_array.ensures.targets)
