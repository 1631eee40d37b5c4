use Rattle.std.proofs.Common.{◌<◌, length, true, ◌∙◌, arith}
use Rattle.std.proofs.lemmas.Result.{MatchResult-weaker}
use Rattle.json_query.specs.declared.error.QueryCode.TheVariants as code
use Rattle.json_query.specs.TextStates.{after_minus}
use Rattle.json_query.proofs.TextChars.{first_digit_read, minus_digit, minus_zero, refused_as}
use Rattle.json_query.proofs.integers.read_negative.Goals as goal

pub returns-then-first-eq0-clause-read : goal.returns-then-first-eq0-clause-read
returns-then-first-eq0-clause-read c = λ r o.
    minus_zero r o c.in-Some.first c.args.text.now c.in-Some.rest.now c.in-Some.ensures.1 c.if-first-eq0.true
    ∙ refused_as c.before-then-first-eq0.result code.ExpectedDigit (length c.args.text.now) c.before-then-first-eq0.ensures.code c.before-then-first-eq0.ensures.left

pub returns-else-first-eq0-clause-read : goal.returns-else-first-eq0-clause-read
returns-else-first-eq0-clause-read c = λ r o.
    let some : 0 < c.in-Some.first = omega arith in
    let first = first_digit_read r o true (after_minus r o) c.in-Some.first c.args.text.now c.in-Some.rest.now (minus_digit r o) c.in-Some.ensures.1 some c.in-Some.ensures.0 in
    MatchResult-weaker c.read_digits.result (c.read_digits.ensures.read r o true) (λ p e. first ∙ e) (λ f e. first ∙ e)
