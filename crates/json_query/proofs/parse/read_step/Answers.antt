use Rattle.std.proofs.Common.{SFits, w64, sym, ap, ◌∙◌, subst, arith, rules, to_z-of_z}
use Rattle.std.proofs.lemmas.Result.{err_from_is_err_and}
use Rattle.json_query.specs.Query.{slice_selector}
use Rattle.json_query.specs.Reading.{ClassAt}
use Rattle.json_query.specs.TextStates.{with_selector, step_after, after_selector, before_step, outcome}
use Rattle.json_query.proofs.TextReading.{skips_step, step_ends}
use Rattle.json_query.proofs.TextParts.{end_absent, second_colon_read, step_absent}
use Rattle.json_query.proofs.parse.read_step.Goals as goal

pub returns-in_err-step-in-Colon-clause-read : goal.returns-in_err-step-in-Colon-clause-read
returns-in_err-step-in-Colon-clause-read c = λ o.
    let colon = subst (λ k. ClassAt k c.args.text.now c.split_class-class.result.1.now) c.in-Colon.is c.split_class-class.ensures in
    let p = err_from_is_err_and c.from_residual.result c.from_residual.ensures.1 in
    rw (p.1, p.2)
    (second_colon_read c.args.start c.args.end o c.args.text.now c.split_class-class.result.1.now colon
    ∙ c.skip_blank-step_text.ensures.skipped (before_step c.args.start c.args.end o) (skips_step c.args.start c.args.end o)
    ∙ c.in_err-step-in-Colon.ensures.read (step_after c.args.start c.args.end) o)

pub returns-then-begins_integer-clause-read : goal.returns-then-begins_integer-clause-read
returns-then-begins_integer-clause-read c = λ o.
    let colon = subst (λ k. ClassAt k c.args.text.now c.split_class-class.result.1.now) c.in-Colon.is c.split_class-class.ensures in
    let fits : SFits w64 c.in_ok-step-in-Colon.step = search rules in
    second_colon_read c.args.start c.args.end o c.args.text.now c.split_class-class.result.1.now colon
    ∙ c.skip_blank-step_text.ensures.skipped (before_step c.args.start c.args.end o) (skips_step c.args.start c.args.end o)
    ∙ c.in_ok-step-in-Colon.ensures.read (step_after c.args.start c.args.end) o
    ∙ step_ends c.args.start c.args.end o c.in_ok-step-in-Colon.step c.in_ok-step-in-Colon.after.now
    ∙ ap (λ i. outcome (after_selector (with_selector o (slice_selector c.args.start c.args.end i))) c.in_ok-step-in-Colon.after.now) (sym (to_z-of_z fits))

pub returns-else-begins_integer-clause-read : goal.returns-else-begins_integer-clause-read
returns-else-begins_integer-clause-read c = λ o.
    let colon = subst (λ k. ClassAt k c.args.text.now c.split_class-class.result.1.now) c.in-Colon.is c.split_class-class.ensures in
    second_colon_read c.args.start c.args.end o c.args.text.now c.split_class-class.result.1.now colon
    ∙ c.skip_blank-step_text.ensures.skipped (before_step c.args.start c.args.end o) (skips_step c.args.start c.args.end o)
    ∙ step_absent c.args.start c.args.end o c.skip_blank-step_text.result.now c.skip_blank-step_text.ensures.all c.if-begins_integer.ensures

pub returns-in_default : goal.returns-in_default
returns-in_default c = record {
  read = λ o. end_absent c.args.start c.args.end o c.split_class-class.result.0 c.args.text.now c.split_class-class.result.1.now c.split_class-class.ensures c.in_default.not-Colon c.requires.no_blank c.requires.ends;
  within = omega arith;
}
