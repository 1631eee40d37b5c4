use Rattle.std.proofs.Common.{sym, ap, ◌∙◌, arith, refl, ◌+◌, map}
use Rattle.std.proofs.lemmas.List.{take_all}
use Rattle.json_model.specs.Edit.{edited}
use Rattle.json_value.specs.Denotes.{tree_of}
use Rattle.json_value.specs.Edits.{edit_of}
use Rattle.reshape.proofs.Applying.{applied_next, refused_next}
use Rattle.reshape.proofs.editing.apply_all.Goals as goal

pub loop-edit-init : goal.loop-edit-init
loop-edit-init c = (refl, refl)

pub overflow_add-number : goal.overflow_add-number
overflow_add-number c = omega (arith, c.loop-edit.invariant.1, c.loop-edit-test.true, c.requires)

pub returns-in-Err-clause-refused : goal.returns-in-Err-clause-refused
returns-in-Err-clause-refused c =
    let h = c.loop-edit.invariant in
    rw (c.error_at_edit.ensures.code, c.error_at_edit.ensures.place) (refused_next _ _ _ _ _ _ _ _ c.loop-edit-test.true c.edit-item.is h.0 h.1 c.in-Err.ensures.refused)

pub loop-edit-preserved : goal.loop-edit-preserved
loop-edit-preserved c = let h = c.loop-edit.invariant in (applied_next _ _ _ _ _ _ c.loop-edit-test.true c.edit-item.is h.0 c.in-Ok.ensures.ok, ap (λ n. n + 1) h.1)

pub returns-clause-ok : goal.returns-clause-ok
returns-clause-ok c = ap (λ xs. edited (map edit_of xs) (tree_of c.args.value.now)) (sym (take_all c.loop-edit.edit-index c.args.edits.now c.loop-edit-test.false)) ∙ c.loop-edit.invariant.0
