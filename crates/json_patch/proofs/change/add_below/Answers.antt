use Rattle.std.proofs.Common.{map, string_bytes, sym, ◌++◌, ◌∷◌, [], ap, ◌∙◌, List}
use Rattle.std.proofs.lemmas.Result.{err_from_is_err_and, on_ok_weaker, IfErr-weaker}
use Rattle.json_model.specs.Edit.{Step, at_path}
use Rattle.json_patch.specs.Pointer.{path_of_tokens}
use Rattle.json_patch.specs.Patch.{with_child, added_at}
use Rattle.json_value.specs.Denotes.{tree_of}
use Rattle.json_value.specs.Edits.{RefusesChange, path_steps, steps_of}
use Rattle.json_value.proofs.AppliedTrees.{refuses_so}
use Rattle.json_patch.proofs.Changes.{added_below, added_nowhere}
use Rattle.json_patch.specs.Touched.{AddTouches}
use Rattle.json_patch.proofs.Touched.{touches_at}
use Rattle.json_patch.proofs.change.add_below.Goals as goal

pub returns-in_err-path-clause-refused : goal.returns-in_err-path-clause-refused
returns-in_err-path-clause-refused c =
    let p = map string_bytes c.args.prefix.now in
    let k = c.args.last.now in
    let u = tree_of c.args.value in
    let t = tree_of c.args.root.now in
    let q = err_from_is_err_and c.from_residual.result c.from_residual.ensures.1 in
    rw (q.1, q.2) (refuses_so (path_of_tokens p t) (added_at (p ++ k ∷ []) u t) (added_nowhere p k u t) _ _ (rw c.view.ensures.tree at c.in_err-path.ensures.refused))

pub returns-clause-ok : goal.returns-clause-ok
returns-clause-ok c =
    let p = map string_bytes c.args.prefix.now in
    let k = c.args.last.now in
    let u = tree_of c.args.value in
    let t = tree_of c.args.root.now in
    let path = rw c.view.ensures.tree at c.in_ok-path.ensures.path in
    let same = added_below p k u t (path_steps c.in_ok-path.path) path ∙ ap (λ (q : List Step). at_path q (with_child k u) t) (sym c.steps.ensures) in
    on_ok_weaker c.insert_along.result (λ e. same ∙ e) c.insert_along.ensures.ok

pub returns-clause-refused : goal.returns-clause-refused
returns-clause-refused c =
    let p = map string_bytes c.args.prefix.now in
    let k = c.args.last.now in
    let u = tree_of c.args.value in
    let t = tree_of c.args.root.now in
    let path = rw c.view.ensures.tree at c.in_ok-path.ensures.path in
    let same = added_below p k u t (path_steps c.in_ok-path.path) path ∙ ap (λ (q : List Step). at_path q (with_child k u) t) (sym c.steps.ensures) in
    IfErr-weaker c.insert_along.result (λ e. RefusesChange (at_path (steps_of c.steps.result.now) (with_child k u) t) e.code e.place) (λ e. RefusesChange (added_at (p ++ k ∷ []) u t) e.code e.place)
    (λ e. refuses_so (at_path (steps_of c.steps.result.now) (with_child k u) t) (added_at (p ++ k ∷ []) u t) (λ r h. same ∙ h) e.code e.place) c.insert_along.ensures.refused

pub returns-clause-children : goal.returns-clause-children
returns-clause-children c =
    on_ok_weaker c.insert_along.result
    (touches_at (map string_bytes c.args.prefix.now) (AddTouches c.args.last.now c.args.value) c.args.root.now _ _ (path_steps c.in_ok-path.path) (steps_of c.steps.result.now) c.view.ensures.tree c.in_ok-path.ensures.path c.steps.ensures)
    c.insert_along.ensures.children
