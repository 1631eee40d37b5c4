use Rattle.std.proofs.Common.{◌≡◌, ◌⊎◌, sym, subst, ap, ◌∙◌}
use Rattle.json_io.specs.FaultText.{text_of}
use Rattle.json_command.specs.Reporting.{Reports}
use Rattle.json_command.specs.Statuses.{status_number}
use Rattle.reshape.specs.Known.{edit_refused}
use Rattle.reshape.proofs.Outcomes.{good_status, bad_status, bad_done, unfit_status, unfit_done, made_status, words_status, did_asked}
use Rattle.reshape.proofs.top.run.Goals as goal

pub returns-in-Ok-clause-exact : goal.returns-in-Ok-clause-exact
returns-in-Ok-clause-exact g c = λ code place bad. absurd (bad_done _ _ _ (g.K.Sink.state c.args.sink.now) (g.K.Sink.state c.carry_out.new.sink) code place c.in-Ok.ensures.done bad)

pub returns-in-Err-clause-complete : goal.returns-in-Err-clause-complete
returns-in-Err-clause-complete g c = λ good. subst (λ n. (n ≡ 0) ⊎ (n ≡ 6)) (sym (c.number-in-Err.ensures ∙ ap status_number c.of_error.ensures)) (good_status _ _ _ _ _ _ _ c.in-Err.ensures.refused good)

pub returns-in-Err-clause-exact : goal.returns-in-Err-clause-exact
returns-in-Err-clause-exact g c =
    λ code place bad.
    subst (λ n. ((n ≡ 1) × Reports (text_of (record { code = code; place = place })) (g.E.Sink.state c.args.errs.now) (g.E.Sink.state c.report.new.errs)) ⊎ (n ≡ 6)) (sym (c.number-in-Err.ensures ∙ ap status_number c.of_error.ensures))
    (bad_status _ _ _ (g.K.Sink.state c.args.sink.now) (g.K.Sink.state c.carry_out.new.sink) (g.E.Sink.state c.args.errs.now) (g.E.Sink.state c.report.new.errs) code _ place _ c.in-Err.ensures.refused c.report.ensures bad)

pub returns-in-Ok-clause-unfit : goal.returns-in-Ok-clause-unfit
returns-in-Ok-clause-unfit g c = λ number why unfit. absurd (unfit_done _ _ _ (g.K.Sink.state c.args.sink.now) (g.K.Sink.state c.carry_out.new.sink) number why c.in-Ok.ensures.done unfit)

pub returns-in-Err-clause-unfit : goal.returns-in-Err-clause-unfit
returns-in-Err-clause-unfit g c =
    λ number why unfit.
    subst (λ n. ((n ≡ 3) × Reports (text_of (edit_refused number why)) (g.E.Sink.state c.args.errs.now) (g.E.Sink.state c.report.new.errs)) ⊎ (n ≡ 6)) (sym (c.number-in-Err.ensures ∙ ap status_number c.of_error.ensures))
    (unfit_status _ _ _ (g.K.Sink.state c.args.sink.now) (g.K.Sink.state c.carry_out.new.sink) (g.E.Sink.state c.args.errs.now) (g.E.Sink.state c.report.new.errs) number why _ _ c.in-Err.ensures.refused c.report.ensures unfit)

pub returns-in-Err-clause-made : goal.returns-in-Err-clause-made
returns-in-Err-clause-made g c = λ making. subst (λ n. (n ≡ 0) ⊎ (n ≡ 5) ⊎ (n ≡ 6)) (sym (c.number-in-Err.ensures ∙ ap status_number c.of_error.ensures)) (made_status _ _ _ _ _ _ _ c.in-Err.ensures.refused making)

pub returns-in-Ok-clause-words : goal.returns-in-Ok-clause-words
returns-in-Ok-clause-words g c = λ none. absurd (did_asked _ _ _ _ _ c.in-Ok.ensures.done none)

pub returns-in-Err-clause-words : goal.returns-in-Err-clause-words
returns-in-Err-clause-words g c = λ none. subst (λ n. (n ≡ 2) ⊎ (n ≡ 6)) (sym (c.number-in-Err.ensures ∙ ap status_number c.of_error.ensures)) (words_status _ _ _ _ _ _ _ c.in-Err.ensures.refused none)
