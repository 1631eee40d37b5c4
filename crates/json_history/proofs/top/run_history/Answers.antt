use Rattle.std.proofs.Common.{◌≡◌, ◌⊎◌, sym, subst, ap, ◌∙◌}
use Rattle.json_io.specs.FaultText.{text_of}
use Rattle.json_command.specs.Reporting.{Reports}
use Rattle.json_command.specs.Statuses.{status_number}
use Rattle.json_history.specs.Calls.{edit_error}
use Rattle.json_history.proofs.RunAnswers.{applicable_status, bad_words_status, invalid_status, invalid_not_done, inapplicable_status, inapplicable_not_done}
use Rattle.json_history.proofs.top.run_history.Goals as goal

pub returns-in-Err-clause-complete : goal.returns-in-Err-clause-complete
returns-in-Err-clause-complete g c = λ good. subst (λ n. (n ≡ 0) ⊎ (n ≡ 6)) (sym (c.number-in-Err.ensures ∙ ap status_number c.of_error.ensures)) (applicable_status _ _ _ _ _ _ _ c.in-Err.ensures.failed good)

pub returns-in-Ok-clause-inapplicable : goal.returns-in-Ok-clause-inapplicable
returns-in-Ok-clause-inapplicable g c = λ number why unfit. absurd (inapplicable_not_done _ _ _ (g.K.Sink.state c.args.sink.now) (g.K.Sink.state c.apply_calls.new.sink) number why unfit c.in-Ok.ensures.done)

pub returns-in-Err-clause-inapplicable : goal.returns-in-Err-clause-inapplicable
returns-in-Err-clause-inapplicable g c =
    λ number why unfit.
    subst (λ n. ((n ≡ 3) × Reports (text_of (edit_error number why)) (g.E.Sink.state c.args.errs.now) (g.E.Sink.state c.report.new.errs)) ⊎ (n ≡ 6)) (sym (c.number-in-Err.ensures ∙ ap status_number c.of_error.ensures))
    (inapplicable_status _ _ _ (g.K.Sink.state c.args.sink.now) (g.K.Sink.state c.apply_calls.new.sink) number why unfit (g.E.Sink.state c.args.errs.now) (g.E.Sink.state c.report.new.errs) _ _ c.in-Err.ensures.failed c.report.ensures)

pub returns-in-Ok-clause-exact : goal.returns-in-Ok-clause-exact
returns-in-Ok-clause-exact g c = λ code place bad. absurd (invalid_not_done _ _ _ (g.K.Sink.state c.args.sink.now) (g.K.Sink.state c.apply_calls.new.sink) code place bad c.in-Ok.ensures.done)

pub returns-in-Err-clause-exact : goal.returns-in-Err-clause-exact
returns-in-Err-clause-exact g c =
    λ code place bad.
    subst (λ n. ((n ≡ 1) × Reports (text_of (record { code = code; place = place })) (g.E.Sink.state c.args.errs.now) (g.E.Sink.state c.report.new.errs)) ⊎ (n ≡ 6)) (sym (c.number-in-Err.ensures ∙ ap status_number c.of_error.ensures))
    (invalid_status _ _ _ (g.K.Sink.state c.args.sink.now) (g.K.Sink.state c.apply_calls.new.sink) code place bad (g.E.Sink.state c.args.errs.now) (g.E.Sink.state c.report.new.errs) _ _ c.in-Err.ensures.failed c.report.ensures)

pub returns-in-Ok-clause-arguments : goal.returns-in-Ok-clause-arguments
returns-in-Ok-clause-arguments g c = λ none. absurd (none c.in-Ok.ensures.done.calls c.in-Ok.ensures.done.asked)

pub returns-in-Err-clause-arguments : goal.returns-in-Err-clause-arguments
returns-in-Err-clause-arguments g c = λ none. subst (λ n. (n ≡ 2) ⊎ (n ≡ 6)) (sym (c.number-in-Err.ensures ∙ ap status_number c.of_error.ensures)) (bad_words_status _ _ _ _ _ _ _ c.in-Err.ensures.failed none)
