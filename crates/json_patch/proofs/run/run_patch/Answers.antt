use Rattle.std.proofs.Common.{◌≡◌, ◌⊎◌, ℕ, inr, sym, subst, ◌∙◌}
use Rattle.json_command.specs.Reporting.{StatusReports}
use Rattle.json_patch.specs.Commands.{StatusReportsText, patch_text, code_of_failure}
use Rattle.json_patch.proofs.Commands.{patch_reported, faulty_done, unfit_done, fit_fails, faulty_fails, unfit_fails, words_fail, patch_fit, patch_faulty, patch_unfit, patch_words}
use Rattle.json_patch.proofs.run.run_patch.Goals as goal

pub returns-in-Err-Patch-clause-refused : goal.returns-in-Err-Patch-clause-refused
returns-in-Err-Patch-clause-refused g c =
    λ _. patch_reported c.report_patch.result c.args.arguments.now _ _ _ _ _ _ c.in-Err-Patch.error (rw c.in-Err-Patch.field-0-is at c.in-Err-Patch.ensures.refused) c.report_patch.ensures

pub returns-in-Ok-clause-exact : goal.returns-in-Ok-clause-exact
returns-in-Ok-clause-exact g c = λ code place bad. absurd (faulty_done c.args.arguments.now (g.S.Source.state c.args.source.now) (g.S.Source.state c.perform_command.new.source) (g.K.Sink.state c.args.sink.now) (g.K.Sink.state c.perform_command.new.sink) code place c.in-Ok.ensures.done bad)

pub returns-in-Ok-clause-unfit : goal.returns-in-Ok-clause-unfit
returns-in-Ok-clause-unfit g c = λ failure op unfit. absurd (unfit_done c.args.arguments.now (g.S.Source.state c.args.source.now) (g.S.Source.state c.perform_command.new.source) (g.K.Sink.state c.args.sink.now) (g.K.Sink.state c.perform_command.new.sink) failure op c.in-Ok.ensures.done unfit)

pub returns-in-Ok-clause-words : goal.returns-in-Ok-clause-words
returns-in-Ok-clause-words g c = λ none. absurd (none (c.in-Ok.ensures.done.request, c.in-Ok.ensures.done.asked))

pub returns-in-Err-Transfer-clause-complete : goal.returns-in-Err-Transfer-clause-complete
returns-in-Err-Transfer-clause-complete g c =
    λ good. inr (c.status.ensures ∙ fit_fails c.args.arguments.now (g.S.Source.state c.args.source.now) (g.S.Source.state c.perform_command.new.source) (g.K.Sink.state c.args.sink.now) (g.K.Sink.state c.perform_command.new.sink) _ _ (rw c.in-Err-Transfer.field-0-is at c.in-Err-Transfer.ensures.refused) good)

pub returns-in-Err-Transfer-clause-exact : goal.returns-in-Err-Transfer-clause-exact
returns-in-Err-Transfer-clause-exact g c =
    λ code place bad.
    subst (λ (n : ℕ). StatusReports 1 (record { code = code; place = place }) (g.E.Sink.state c.args.errs.now) (g.E.Sink.state c.report.new.errs) n) (sym c.status.ensures)
    (faulty_fails c.args.arguments.now (g.S.Source.state c.args.source.now) (g.S.Source.state c.perform_command.new.source) (g.K.Sink.state c.args.sink.now) (g.K.Sink.state c.perform_command.new.sink) (g.E.Sink.state c.args.errs.now) (g.E.Sink.state c.report.new.errs) code _ place _ (rw c.in-Err-Transfer.field-0-is at c.in-Err-Transfer.ensures.refused) c.report.ensures bad)

pub returns-in-Err-Transfer-clause-unfit : goal.returns-in-Err-Transfer-clause-unfit
returns-in-Err-Transfer-clause-unfit g c =
    λ failure op unfit.
    subst (λ (n : ℕ). StatusReportsText 3 (patch_text (code_of_failure failure) op) (g.E.Sink.state c.args.errs.now) (g.E.Sink.state c.report.new.errs) n) (sym c.status.ensures)
    (unfit_fails c.args.arguments.now (g.S.Source.state c.args.source.now) (g.S.Source.state c.perform_command.new.source) (g.K.Sink.state c.args.sink.now) (g.K.Sink.state c.perform_command.new.sink) (g.E.Sink.state c.args.errs.now) (g.E.Sink.state c.report.new.errs) failure op _ _ (rw c.in-Err-Transfer.field-0-is at c.in-Err-Transfer.ensures.refused) unfit)

pub returns-in-Err-Transfer-clause-words : goal.returns-in-Err-Transfer-clause-words
returns-in-Err-Transfer-clause-words g c =
    λ none. subst (λ (n : ℕ). (n ≡ 2) ⊎ (n ≡ 6)) (sym c.status.ensures) (words_fail c.args.arguments.now (g.S.Source.state c.args.source.now) (g.S.Source.state c.perform_command.new.source) (g.K.Sink.state c.args.sink.now) (g.K.Sink.state c.perform_command.new.sink) _ _ (rw c.in-Err-Transfer.field-0-is at c.in-Err-Transfer.ensures.refused) none)

pub returns-in-Err-Patch-clause-complete : goal.returns-in-Err-Patch-clause-complete
returns-in-Err-Patch-clause-complete g c =
    λ good. inr (patch_fit c.args.arguments.now (g.S.Source.state c.args.source.now) (g.S.Source.state c.perform_command.new.source) (g.K.Sink.state c.args.sink.now) (g.K.Sink.state c.perform_command.new.sink) c.in-Err-Patch.error (rw c.in-Err-Patch.field-0-is at c.in-Err-Patch.ensures.refused) (g.E.Sink.state c.args.errs.now) (g.E.Sink.state c.report_patch.new.errs) _ c.report_patch.ensures good)

pub returns-in-Err-Patch-clause-exact : goal.returns-in-Err-Patch-clause-exact
returns-in-Err-Patch-clause-exact g c =
    λ code place bad. absurd (patch_faulty c.args.arguments.now (g.S.Source.state c.args.source.now) (g.S.Source.state c.perform_command.new.source) (g.K.Sink.state c.args.sink.now) (g.K.Sink.state c.perform_command.new.sink) c.in-Err-Patch.error (rw c.in-Err-Patch.field-0-is at c.in-Err-Patch.ensures.refused) (g.E.Sink.state c.args.errs.now) (g.E.Sink.state c.report_patch.new.errs) _ c.report_patch.ensures code place bad)

pub returns-in-Err-Patch-clause-unfit : goal.returns-in-Err-Patch-clause-unfit
returns-in-Err-Patch-clause-unfit g c =
    λ failure op unfit. patch_unfit c.args.arguments.now (g.S.Source.state c.args.source.now) (g.S.Source.state c.perform_command.new.source) (g.K.Sink.state c.args.sink.now) (g.K.Sink.state c.perform_command.new.sink) c.in-Err-Patch.error (rw c.in-Err-Patch.field-0-is at c.in-Err-Patch.ensures.refused) (g.E.Sink.state c.args.errs.now) (g.E.Sink.state c.report_patch.new.errs) _ c.report_patch.ensures failure op unfit

pub returns-in-Err-Patch-clause-words : goal.returns-in-Err-Patch-clause-words
returns-in-Err-Patch-clause-words g c =
    λ none. absurd (patch_words c.args.arguments.now (g.S.Source.state c.args.source.now) (g.S.Source.state c.perform_command.new.source) (g.K.Sink.state c.args.sink.now) (g.K.Sink.state c.perform_command.new.sink) c.in-Err-Patch.error (rw c.in-Err-Patch.field-0-is at c.in-Err-Patch.ensures.refused) (g.E.Sink.state c.args.errs.now) (g.E.Sink.state c.report_patch.new.errs) _ c.report_patch.ensures none)
