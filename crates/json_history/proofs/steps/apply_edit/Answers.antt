use Rattle.std.proofs.lemmas.Result.{on_ok_weaker, on_err_weaker}
use Rattle.json_value.specs.Denotes.{tree_of}
use Rattle.json_value.specs.Edits.{FailsAs, Makes}
use Rattle.json_model.specs.Edit.{edited_once}
use Rattle.std.proofs.Common.{subst, sym}
use Rattle.json_history.proofs.RestoredValues.{set_edit, set_touches, set_keeps}
use Rattle.json_history.proofs.steps.apply_edit.Goals as goal

pub returns-in-Set-clause-ok : goal.returns-in-Set-clause-ok
returns-in-Set-clause-ok c =
    on_ok_weaker c.put.result (subst (λ d. Makes (edited_once d (tree_of c.args.value.now)) c.put.new.target) (sym (set_edit c.args.edit c.in-Set.path c.in-Set.new c.in-Set.is _ c.steps.ensures))) c.put.ensures.ok

pub returns-in-Set-clause-refused : goal.returns-in-Set-clause-refused
returns-in-Set-clause-refused c =
    subst (λ d. FailsAs (edited_once d (tree_of c.args.value.now)) c.put.result) (sym (set_edit c.args.edit c.in-Set.path c.in-Set.new c.in-Set.is _ c.steps.ensures)) c.put.ensures.refused

pub returns-in-Set-clause-children : goal.returns-in-Set-clause-children
returns-in-Set-clause-children c =
    on_ok_weaker c.put.result (set_touches c.args.edit c.in-Set.path c.in-Set.new c.in-Set.is _ c.steps.ensures c.args.value.now c.put.new.target) c.put.ensures.children

pub returns-in-Set-clause-kept_along : goal.returns-in-Set-clause-kept_along
returns-in-Set-clause-kept_along c =
    on_err_weaker c.put.result (set_keeps c.args.edit c.in-Set.path c.in-Set.new c.in-Set.is _ c.steps.ensures c.args.value.now c.put.new.target) c.put.ensures.kept_along
