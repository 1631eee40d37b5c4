use Rattle.std.proofs.Common.{refl, map, string_bytes, ◌++◌, ◌∷◌, [], ◌∙◌}
use Rattle.std.proofs.lemmas.Result.{err_from_is_err_and, on_ok_weaker, IfErr-weaker}
use Rattle.json_model.specs.Edit.{remove_at, edited_once}
use Rattle.json_patch.specs.Pointer.{path_of_tokens}
use Rattle.json_patch.specs.Patch.{removed_at}
use Rattle.json_value.specs.Denotes.{tree_of}
use Rattle.json_value.specs.Edits.{RefusesChange, path_steps, step_of as node_step}
use Rattle.json_value.specs.Seen.{seen}
use Rattle.json_value.proofs.AppliedTrees.{refuses_so}
use Rattle.json_patch.specs.Lookups.{value_at_token}
use Rattle.json_patch.proofs.Changes.{removed_below, removed_nowhere, removed_absent}
use Rattle.json_patch.specs.Touched.{RemovesChild}
use Rattle.json_patch.proofs.Touched.{touches_at, removes_along}
use Rattle.json_patch.proofs.change.remove_below.Goals as goal

pub returns-in_err-path-clause-refused : goal.returns-in_err-path-clause-refused
returns-in_err-path-clause-refused c =
    let p = map string_bytes c.args.prefix.now in
    let k = c.args.last.now in
    let t = tree_of c.args.root.now in
    let q = err_from_is_err_and c.from_residual.result c.from_residual.ensures.1 in
    rw (q.1, q.2) (refuses_so (path_of_tokens p t) (removed_at (p ++ k ∷ []) t) (removed_nowhere p k t) _ _ (rw c.view.ensures.tree at c.in_err-path.ensures.refused))

pub returns-in_err-step-clause-refused : goal.returns-in_err-step-clause-refused
returns-in_err-step-clause-refused c =
    let p = map string_bytes c.args.prefix.now in
    let k = c.args.last.now in
    let t = tree_of c.args.root.now in
    let path = rw c.view.ensures.tree at c.in_ok-path.ensures.path in
    let here = rw c.view.ensures.tree at c.in_ok-path.ensures.place in
    let u = seen c.in_ok-path.parent in
    let q = err_from_is_err_and c.from_residual-in_err-step.result c.from_residual-in_err-step.ensures.1 in
    rw (q.1, q.2) (refuses_so (value_at_token k u) (removed_at (p ++ k ∷ []) t) (λ r h. removed_absent p k t u (path_steps c.in_ok-path.path) r path here h) _ _ c.in_err-step.ensures.refused)

pub returns-clause-ok : goal.returns-clause-ok
returns-clause-ok c =
    let p = map string_bytes c.args.prefix.now in
    let k = c.args.last.now in
    let t = tree_of c.args.root.now in
    let path = rw c.view.ensures.tree at c.in_ok-path.ensures.path in
    let here = rw c.view.ensures.tree at c.in_ok-path.ensures.place in
    on_ok_weaker c.apply.result (λ e. removed_below p k t (seen c.in_ok-path.parent) (path_steps c.in_ok-path.path) (node_step c.in_ok-step.step) path here c.in_ok-step.ensures.ok ∙ e) c.apply.ensures.ok

pub returns-clause-refused : goal.returns-clause-refused
returns-clause-refused c =
    let p = map string_bytes c.args.prefix.now in
    let k = c.args.last.now in
    let t = tree_of c.args.root.now in
    let path = rw c.view.ensures.tree at c.in_ok-path.ensures.path in
    let here = rw c.view.ensures.tree at c.in_ok-path.ensures.place in
    let made = edited_once (remove_at (path_steps c.in_ok-path.path) (node_step c.in_ok-step.step)) t in
    IfErr-weaker c.apply.result (λ e. RefusesChange made e.code e.place) (λ e. RefusesChange (removed_at (p ++ k ∷ []) t) e.code e.place)
    (λ e. refuses_so made (removed_at (p ++ k ∷ []) t) (λ r h. removed_below p k t (seen c.in_ok-path.parent) (path_steps c.in_ok-path.path) (node_step c.in_ok-step.step) path here c.in_ok-step.ensures.ok ∙ h) e.code e.place)
    c.apply.ensures.refused

pub returns-clause-children : goal.returns-clause-children
returns-clause-children c =
    let q = path_steps c.in_ok-path.path in
    on_ok_weaker c.apply.result
    (λ h. touches_at (map string_bytes c.args.prefix.now) RemovesChild c.args.root.now _ _ q q c.view.ensures.tree c.in_ok-path.ensures.path refl (removes_along q c.in_ok-step.step c.args.root.now _ h))
    c.apply.ensures.children
