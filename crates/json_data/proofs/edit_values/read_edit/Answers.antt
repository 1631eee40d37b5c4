use Rattle.std.proofs.Common.{◌≡◌, codes, drop, ◌∙◌, inr, Some, refl}
use Rattle.std.proofs.lemmas.Result.{IfOk-weaker, IfErr-weaker}
use Rattle.json_value.specs.Edits.{edit_of}
use Rattle.json_value.specs.EditTrees.{edit_named, edit_in}
use Rattle.json_value.specs.Seen.{seen, elements_seen}
use Rattle.json_data.specs.Spelled.{Unspelled}
use Rattle.json_data.proofs.Spelling.{unread, edit_by_name, edit_unknown}
use Rattle.json_data.proofs.edit_values.read_edit.Goals as goal

pub returns-in-set-clause-ok : goal.returns-in-set-clause-ok
returns-in-set-clause-ok c =
    let e = edit_by_name (seen c.args.view) (elements_seen c.in-Some.array) c.in-Some-edit_name.name.now (codes "set") c.in-Some.ensures.trees c.in-Some-edit_name.ensures c.in-set.is in
    IfOk-weaker c.read_set.result _ (λ d. edit_in (seen c.args.view) ≡ Some (edit_of d)) (λ d h. e ∙ h) c.read_set.ensures.ok

pub returns-in-set-clause-err : goal.returns-in-set-clause-err
returns-in-set-clause-err c =
    let e = edit_by_name (seen c.args.view) (elements_seen c.in-Some.array) c.in-Some-edit_name.name.now (codes "set") c.in-Some.ensures.trees c.in-Some-edit_name.ensures c.in-set.is in
    IfErr-weaker c.read_set.result _ (Unspelled (edit_in (seen c.args.view)))
    (λ d h. unread (edit_named (codes "set") (drop 1 (elements_seen c.in-Some.array))) (edit_in (seen c.args.view)) d (λ m. e ∙ m) h) c.read_set.ensures.err

pub returns-in-insert-clause-ok : goal.returns-in-insert-clause-ok
returns-in-insert-clause-ok c =
    let e = edit_by_name (seen c.args.view) (elements_seen c.in-Some.array) c.in-Some-edit_name.name.now (codes "insert") c.in-Some.ensures.trees c.in-Some-edit_name.ensures c.in-insert.is in
    IfOk-weaker c.read_insert.result _ (λ d. edit_in (seen c.args.view) ≡ Some (edit_of d)) (λ d h. e ∙ h) c.read_insert.ensures.ok

pub returns-in-insert-clause-err : goal.returns-in-insert-clause-err
returns-in-insert-clause-err c =
    let e = edit_by_name (seen c.args.view) (elements_seen c.in-Some.array) c.in-Some-edit_name.name.now (codes "insert") c.in-Some.ensures.trees c.in-Some-edit_name.ensures c.in-insert.is in
    IfErr-weaker c.read_insert.result _ (Unspelled (edit_in (seen c.args.view)))
    (λ d h. unread (edit_named (codes "insert") (drop 1 (elements_seen c.in-Some.array))) (edit_in (seen c.args.view)) d (λ m. e ∙ m) h) c.read_insert.ensures.err

pub returns-in-push-clause-ok : goal.returns-in-push-clause-ok
returns-in-push-clause-ok c =
    let e = edit_by_name (seen c.args.view) (elements_seen c.in-Some.array) c.in-Some-edit_name.name.now (codes "push") c.in-Some.ensures.trees c.in-Some-edit_name.ensures c.in-push.is in
    IfOk-weaker c.read_push.result _ (λ d. edit_in (seen c.args.view) ≡ Some (edit_of d)) (λ d h. e ∙ h) c.read_push.ensures.ok

pub returns-in-push-clause-err : goal.returns-in-push-clause-err
returns-in-push-clause-err c =
    let e = edit_by_name (seen c.args.view) (elements_seen c.in-Some.array) c.in-Some-edit_name.name.now (codes "push") c.in-Some.ensures.trees c.in-Some-edit_name.ensures c.in-push.is in
    IfErr-weaker c.read_push.result _ (Unspelled (edit_in (seen c.args.view)))
    (λ d h. unread (edit_named (codes "push") (drop 1 (elements_seen c.in-Some.array))) (edit_in (seen c.args.view)) d (λ m. e ∙ m) h) c.read_push.ensures.err

pub returns-in-remove-clause-ok : goal.returns-in-remove-clause-ok
returns-in-remove-clause-ok c =
    let e = edit_by_name (seen c.args.view) (elements_seen c.in-Some.array) c.in-Some-edit_name.name.now (codes "remove") c.in-Some.ensures.trees c.in-Some-edit_name.ensures c.in-remove.is in
    IfOk-weaker c.read_remove.result _ (λ d. edit_in (seen c.args.view) ≡ Some (edit_of d)) (λ d h. e ∙ h) c.read_remove.ensures.ok

pub returns-in-remove-clause-err : goal.returns-in-remove-clause-err
returns-in-remove-clause-err c =
    let e = edit_by_name (seen c.args.view) (elements_seen c.in-Some.array) c.in-Some-edit_name.name.now (codes "remove") c.in-Some.ensures.trees c.in-Some-edit_name.ensures c.in-remove.is in
    IfErr-weaker c.read_remove.result _ (Unspelled (edit_in (seen c.args.view)))
    (λ d h. unread (edit_named (codes "remove") (drop 1 (elements_seen c.in-Some.array))) (edit_in (seen c.args.view)) d (λ m. e ∙ m) h) c.read_remove.ensures.err

pub returns-in_default-name-clause-err : goal.returns-in_default-name-clause-err
returns-in_default-name-clause-err c =
    let w = c.in_default-name in
    let name = c.in-Some-edit_name.name.now in
    let e = edit_by_name (seen c.args.view) (elements_seen c.in-Some.array) name name c.in-Some.ensures.trees c.in-Some-edit_name.ensures refl in
    inr (c.unspelled-in_default-name.ensures, e ∙ edit_unknown name (drop 1 (elements_seen c.in-Some.array)) w.not-set w.not-insert w.not-push w.not-remove)
