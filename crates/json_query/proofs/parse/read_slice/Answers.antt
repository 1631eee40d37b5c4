use Rattle.std.proofs.Common.{SFits, w64, sym, ap, ◌∙◌, rules, to_z-of_z}
use Rattle.std.proofs.lemmas.Result.{MatchResult-weaker, err_from_is_err_and}
use Rattle.json_query.specs.TextStates.{after_integer, before_end, end_after, outcome}
use Rattle.json_query.proofs.TextReading.{skips_bound, skips_end}
use Rattle.json_query.proofs.parse.read_slice.Goals as goal

pub returns-in_err-end-clause-read : goal.returns-in_err-end-clause-read
returns-in_err-end-clause-read c = λ o.
    let p = err_from_is_err_and c.from_residual.result c.from_residual.ensures.1 in
    rw (p.1, p.2) (c.skip_blank-end_text.ensures.skipped (before_end c.args.start o) (skips_end c.args.start o) ∙ c.in_err-end.ensures.read (end_after c.args.start) o)

pub returns-clause-read : goal.returns-clause-read
returns-clause-read c = λ o.
    let end = c.in_ok-end.end in
    let fits : SFits w64 end = search rules in
    let first = c.skip_blank-end_text.ensures.skipped (before_end c.args.start o) (skips_end c.args.start o)
    ∙ c.in_ok-end.ensures.read (end_after c.args.start) o
    ∙ c.skip_blank.ensures.skipped (after_integer (end_after c.args.start) o end) (skips_bound c.args.start o end)
    ∙ ap (λ i. outcome (after_integer (end_after c.args.start) o i) c.skip_blank.result.now) (sym (to_z-of_z fits)) in
    MatchResult-weaker c.read_step-2.result (c.read_step-2.ensures.read o) (λ r e. first ∙ e) (λ f e. first ∙ e)
