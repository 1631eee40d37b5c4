use Rattle.std.proofs.Common.{map, length, sym, ap, ◌∙◌, arith}
use Rattle.std.proofs.lemmas.List.{length-map}
use Rattle.std.proofs.lemmas.Result.{err_from_is_err_and, on_ok_weaker, IfErr-weaker}
use Rattle.json_grammar.specs.Tree.{list, list_trees}
use Rattle.json_patch.specs.Patch.{operations_from, applied_from, patched}
use Rattle.json_value.specs.Denotes.{tree_of}
use Rattle.json_value.specs.Seen.{elements_seen}
use Rattle.json_patch.specs.Errors.{PatchFails}
use Rattle.json_patch.specs.Operations.{model_operation}
use Rattle.json_patch.proofs.OperationLists.{read_length, patched_read, patched_bad}
use Rattle.json_patch.proofs.Errors.{patch_fails_as, reading_fails_as}
use Rattle.json_patch.proofs.patch.apply_list.Goals as goal

pub returns-in_err-operations-clause-refused : goal.returns-in_err-operations-clause-refused
returns-in_err-operations-clause-refused c =
    let xs = elements_seen c.args.list in
    let t = tree_of c.args.root.now in
    let q = err_from_is_err_and c.from_residual.result c.from_residual.ensures.1 in
    rw (q.1, q.2) (reading_fails_as (operations_from 0 xs) (patched t (list (list_trees xs))) (λ n e. patched_bad t xs n e) _ _ c.in_err-operations.ensures.refused)

pub apply_operations-requires : goal.apply_operations-requires
apply_operations-requires c =
    let items = c.in_ok-operations.operations.items in
    let xs = elements_seen c.args.list in
    let n = read_length 0 xs (map model_operation items) c.in_ok-operations.ensures.ok in
    record { few = omega (arith, c.requires.few, n, length-map items model_operation, ap length c.as_slice.ensures.value) }

pub returns-clause-ok : goal.returns-clause-ok
returns-clause-ok c =
    let items = c.in_ok-operations.operations.items in
    let xs = elements_seen c.args.list in
    let t = tree_of c.args.root.now in
    let same = patched_read t xs (map model_operation items) c.in_ok-operations.ensures.ok ∙ ap (λ vs. applied_from 0 (map model_operation vs) t) (sym c.as_slice.ensures.value) in
    on_ok_weaker c.apply_operations.result (λ e. same ∙ e) c.apply_operations.ensures.ok

pub returns-clause-refused : goal.returns-clause-refused
returns-clause-refused c =
    let items = c.in_ok-operations.operations.items in
    let xs = elements_seen c.args.list in
    let t = tree_of c.args.root.now in
    let made = applied_from 0 (map model_operation c.as_slice.result.now) t in
    let same = patched_read t xs (map model_operation items) c.in_ok-operations.ensures.ok ∙ ap (λ vs. applied_from 0 (map model_operation vs) t) (sym c.as_slice.ensures.value) in
    IfErr-weaker c.apply_operations.result (λ e. PatchFails made e.code e.op) (λ e. PatchFails (patched t (list (list_trees xs))) e.code e.op)
    (λ e. patch_fails_as made (patched t (list (list_trees xs))) (λ r h. same ∙ h) e.code e.op) c.apply_operations.ensures.refused
