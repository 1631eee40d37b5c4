use Rattle.std.proofs.Common.{sym, ◌∙◌, inl, inr, subst}
use Rattle.mezdruk_arguments.specs.CommandLine.{MayTake}
use Rattle.mezdruk_arguments.proofs.Lines.{followed, on_ok_then, if_err_then}
use Rattle.mezdruk_arguments.proofs.line.ArgumentLine.take.Goals as goal

pub returns-in-Setting-clause-ok : goal.returns-in-Setting-clause-ok
returns-in-Setting-clause-ok c =
    let w = c.args.word.now in
    on_ok_then c.take_setting.result (λ t. λ s h. followed _ s w _ (sym c.in-Setting.is ∙ c.role_of.ensures s h) (t s w h)) c.take_setting.ensures.ok

pub returns-in-Setting-clause-err : goal.returns-in-Setting-clause-err
returns-in-Setting-clause-err c =
    let w = c.args.word.now in
    if_err_then c.take_setting.result (λ e t. elim t [ inl m ↦ inl m | inr n ↦ inr (λ s h k. n s w h (subst (MayTake s w) (sym (c.role_of.ensures s h) ∙ c.in-Setting.is) k)) ]) c.take_setting.ensures.err

pub returns-in-WidthName-clause-ok : goal.returns-in-WidthName-clause-ok
returns-in-WidthName-clause-ok c =
    let w = c.args.word.now in
    on_ok_then c.take_width_name.result (λ t. λ s h. followed _ s w _ (sym c.in-WidthName.is ∙ c.role_of.ensures s h) (t s w h)) c.take_width_name.ensures.ok

pub returns-in-WidthName-clause-err : goal.returns-in-WidthName-clause-err
returns-in-WidthName-clause-err c =
    let w = c.args.word.now in
    if_err_then c.take_width_name.result (λ e t. elim t [ inl m ↦ inl m | inr n ↦ inr (λ s h k. n s w h (subst (MayTake s w) (sym (c.role_of.ensures s h) ∙ c.in-WidthName.is) k)) ]) c.take_width_name.ensures.err

pub returns-in-Operand-clause-ok : goal.returns-in-Operand-clause-ok
returns-in-Operand-clause-ok c =
    let w = c.args.word.now in
    on_ok_then c.take_operand.result (λ t. λ s h. followed _ s w _ (sym c.in-Operand.is ∙ c.role_of.ensures s h) (t s h)) c.take_operand.ensures.ok

pub returns-in-Path-clause-ok : goal.returns-in-Path-clause-ok
returns-in-Path-clause-ok c =
    let w = c.args.word.now in
    on_ok_then c.take_path.result (λ t. λ s h. followed _ s w _ (sym c.in-Path.is ∙ c.role_of.ensures s h) (t s h)) c.take_path.ensures.ok
