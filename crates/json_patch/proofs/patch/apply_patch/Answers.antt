use Rattle.std.proofs.Common.{sym, ap, ◌∙◌}
use Rattle.std.proofs.lemmas.Result.{err_from_is_err_and}
use Rattle.json_grammar.specs.Tree.{Tree, list, list_trees}
use Rattle.json_patch.specs.Patch.{patched}
use Rattle.json_value.specs.Denotes.{tree_of}
use Rattle.json_value.specs.Seen.{seen, elements_seen}
use Rattle.json_value.proofs.SameViews.{array_seen}
use Rattle.json_patch.proofs.Errors.{patch_fails_as}
use Rattle.json_patch.proofs.patch.apply_patch.Goals as goal

pub returns-in_err-apply_list-in-Some-clause-refused : goal.returns-in_err-apply_list-in-Some-clause-refused
returns-in_err-apply_list-in-Some-clause-refused c =
    let xs = elements_seen c.in-Some.list in
    let t = tree_of c.args.value.now in
    let same = ap (patched t) (array_seen (seen c.args.patch) xs c.in-Some.ensures.trees) ∙ ap (λ (u : Tree). patched u (list (list_trees xs))) (sym c.in-Ok.ensures.tree) in
    let q = err_from_is_err_and c.from_residual.result c.from_residual.ensures.1 in
    rw (q.1, q.2) (patch_fails_as (patched (tree_of c.in-Ok.copy) (list (list_trees xs))) (patched t (seen c.args.patch)) (λ e h. same ∙ h) _ _ c.in_err-apply_list-in-Some.ensures.refused)

pub returns-in_ok-apply_list-in-Some-clause-ok : goal.returns-in_ok-apply_list-in-Some-clause-ok
returns-in_ok-apply_list-in-Some-clause-ok c =
    let xs = elements_seen c.in-Some.list in
    let t = tree_of c.args.value.now in
    ap (patched t) (array_seen (seen c.args.patch) xs c.in-Some.ensures.trees) ∙ ap (λ (u : Tree). patched u (list (list_trees xs))) (sym c.in-Ok.ensures.tree) ∙ c.in_ok-apply_list-in-Some.ensures.ok
