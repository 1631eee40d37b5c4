use Rattle.std.proofs.Common.{◌≡◌, ◌⊎◌, None, sym, subst, ap, ◌∙◌}
use Rattle.json_io.specs.Errors.{no_memory}
use Rattle.json_value.specs.Denotes.{tree_of}
use Rattle.json_value.specs.EditTrees.{edits_in}
use Rattle.mezdruk_arguments.proofs.Lines.{if_ok_then, if_err_then}
use Rattle.mezdruk_arguments.proofs.Spelled.{edits_given, edits_fail}
use Rattle.mezdruk_arguments.proofs.edits.requested_edits.Goals as goal

pub returns-clause-ok : goal.returns-clause-ok
returns-clause-ok c =
    let value = c.in_ok-value.value in
    if_ok_then c.from_value.result (λ v e. sym (ap edits_in c.in_ok-value.ensures.tree) ∙ edits_given (tree_of value) v.items e) c.from_value.ensures.ok

pub returns-clause-err : goal.returns-clause-err
returns-clause-err c =
    let value = c.in_ok-value.value in
    if_err_then c.from_value.result (λ e h. subst (λ t. (e ≡ no_memory) ⊎ (edits_in t ≡ None)) c.in_ok-value.ensures.tree (edits_fail (tree_of value) e.code e.place h)) c.from_value.ensures.err
