use Rattle.std.proofs.Common.{◌≡◌, ◌<◌, ◌∷◌, false, sym, ap, ◌∙◌, arith}
use Rattle.std.proofs.lemmas.Result.{err_from_is_err_and}
use Rattle.json_query.specs.Reading.{starts}
use Rattle.json_query.specs.TextStates.{after_integer, outcome}
use Rattle.json_query.proofs.TextReading.{start_digit}
use Rattle.json_query.proofs.TextChars.{begins_minus, first_digit_read, minus_read, negated, unsigned_as, zero_read}
use Rattle.json_query.proofs.integers.read_integer.Goals as goal

pub returns-then-first-eq0-clause-read : goal.returns-then-first-eq0-clause-read
returns-then-first-eq0-clause-read c = λ r o. zero_read r o c.in-Some.first c.args.text.now c.in-Some.rest.now c.in-Some.ensures.1 c.if-first-eq0.true

pub returns-in_err-magnitude-in-Some-clause-read : goal.returns-in_err-magnitude-in-Some-clause-read
returns-in_err-magnitude-in-Some-clause-read c = λ r o.
    let some : 0 < c.in-Some.first = omega arith in
    let first = first_digit_read r o false (starts r o) c.in-Some.first c.args.text.now c.in-Some.rest.now (start_digit r o) c.in-Some.ensures.1 some c.in-Some.ensures.0 in
    let p = err_from_is_err_and c.from_residual.result c.from_residual.ensures.1 in
    rw (p.1, p.2) (first ∙ c.in_err-magnitude-in-Some.ensures.read r o false)

pub returns-in_ok-magnitude-in-Some-clause-read : goal.returns-in_ok-magnitude-in-Some-clause-read
returns-in_ok-magnitude-in-Some-clause-read c = λ r o.
    let some : 0 < c.in-Some.first = omega arith in
    let n = c.in_ok-magnitude-in-Some.magnitude in
    first_digit_read r o false (starts r o) c.in-Some.first c.args.text.now c.in-Some.rest.now (start_digit r o) c.in-Some.ensures.1 some c.in-Some.ensures.0
    ∙ c.in_ok-magnitude-in-Some.ensures.read r o false
    ∙ ap (λ i. outcome (after_integer r o i) c.in_ok-magnitude-in-Some.after.now) (sym (unsigned_as n c.in_ok-magnitude-in-Some.ensures.exact))

pub returns-in_ok-below-in-None-clause-read : goal.returns-in_ok-below-in-None-clause-read
returns-in_ok-below-in-None-clause-read c = λ r o.
    let rest = c.split_class.result.1.now in
    let minus : c.args.text.now ≡ 45 ∷ rest = begins_minus c.args.text.now rest c.split_class.result.0 c.requires c.in-None.ensures c.split_class.ensures in
    minus_read r o c.args.text.now rest minus
    ∙ c.in_ok-below-in-None.ensures.read r o
    ∙ ap (λ i. outcome (after_integer r o i) c.in_ok-below-in-None.after.now) (sym (negated c.in_ok-below-in-None.below c.in_ok-below-in-None.ensures.exact))
