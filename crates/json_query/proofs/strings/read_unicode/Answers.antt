use Rattle.std.proofs.Common.{◌<◌, ◌+◌, ◌*◌, ◌++◌, length, sym, ap, ◌∙◌, arith}
use Rattle.std.specs.Char.{encode_utf8}
use Rattle.std.proofs.lemmas.Result.{err_from_is_err_and}
use Rattle.json_query.specs.declared.error.QueryCode.TheVariants as code
use Rattle.json_query.specs.TextStates.{in_string, outcome}
use Rattle.json_query.proofs.TextChars.{refused_as}
use Rattle.json_query.proofs.TextEscapes.{hex_small, high_unit, pair_is, pair_scalar, two_digits_halt, two_digits_read, unit_high, unit_read}
use Rattle.json_query.proofs.strings.read_unicode.Goals as goal

pub returns-then-begins_low-clause-read : goal.returns-then-begins_low-clause-read
returns-then-begins_low-clause-read c = λ m o k.
    two_digits_halt m o k c.in_ok-first.first c.in_ok-second.second c.args.text.now c.in_ok-first.rest.now c.in_ok-second.after.now c.in_ok-first.ensures c.in_ok-second.ensures (sym c.begins_low.ensures ∙ c.if-begins_low.true)
    ∙ refused_as c.before-then-begins_low.result code.InvalidSurrogate (length c.in_ok-first.rest.now) c.before-then-begins_low.ensures.code c.before-then-begins_low.ensures.left

pub returns-in_err-unit-clause-read : goal.returns-in_err-unit-clause-read
returns-in_err-unit-clause-read c = λ m o k.
    let no_low = sym c.begins_low.ensures ∙ c.if-begins_low.false in
    let p = err_from_is_err_and c.from_residual-in_err-unit.result c.from_residual-in_err-unit.ensures.1 in
    rw (p.1, p.2)
    (two_digits_read m o k c.in_ok-first.first c.in_ok-second.second c.args.text.now c.in_ok-first.rest.now c.in_ok-second.after.now c.in_ok-first.ensures c.in_ok-second.ensures no_low
    ∙ c.in_err-unit.ensures.unit m o k no_low)

pub returns-then-not-begins_high-clause-read : goal.returns-then-not-begins_high-clause-read
returns-then-not-begins_high-clause-read c = λ m o k.
    let high = c.in_ok-first.first * 16 + c.in_ok-second.second in
    let no_low = sym c.begins_low.ensures ∙ c.if-begins_low.false in
    let no_high = sym c.begins_high.ensures ∙ c.if-not-begins_high.true in
    let first : c.in_ok-first.first < 16 = hex_small c.in_ok-first.first c.args.text.now c.in_ok-first.rest.now c.in_ok-first.ensures in
    let second : c.in_ok-second.second < 16 = hex_small c.in_ok-second.second c.in_ok-first.rest.now c.in_ok-second.after.now c.in_ok-second.ensures in
    let value = c.in_ok-unit.ensures.value in
    let read = unit_read m o k high value.0 c.in_ok-unit.unit no_low no_high (omega arith) value.1 value.2 in
    two_digits_read m o k c.in_ok-first.first c.in_ok-second.second c.args.text.now c.in_ok-first.rest.now c.in_ok-second.after.now c.in_ok-first.ensures c.in_ok-second.ensures no_low
    ∙ c.in_ok-unit.ensures.unit m o k no_low
    ∙ ap (λ s. outcome s c.in_ok-unit.after.now) read.0
    ∙ ap (λ u. outcome (in_string m o (k ++ encode_utf8 u)) c.in_ok-unit.after.now) (sym (c.scalar.ensures read.1))

pub returns-in_err-low-clause-read : goal.returns-in_err-low-clause-read
returns-in_err-low-clause-read c = λ m o k.
    let high = c.in_ok-first.first * 16 + c.in_ok-second.second in
    let no_low = sym c.begins_low.ensures ∙ c.if-begins_low.false in
    let value = c.in_ok-unit.ensures.value in
    let within = high_unit high value.0 c.in_ok-unit.unit (sym c.begins_high.ensures ∙ c.if-not-begins_high.false) value.1 value.2 in
    let p = err_from_is_err_and c.from_residual-in_err-low.result c.from_residual-in_err-low.ensures.1 in
    rw (p.1, p.2)
    (two_digits_read m o k c.in_ok-first.first c.in_ok-second.second c.args.text.now c.in_ok-first.rest.now c.in_ok-second.after.now c.in_ok-first.ensures c.in_ok-second.ensures no_low
    ∙ c.in_ok-unit.ensures.unit m o k no_low
    ∙ ap (λ s. outcome s c.in_ok-unit.after.now) (unit_high m o k c.in_ok-unit.unit within.0 within.1)
    ∙ c.in_err-low.ensures.read m o k c.in_ok-unit.unit)

pub returns-clause-read : goal.returns-clause-read
returns-clause-read c = λ m o k.
    let high = c.in_ok-first.first * 16 + c.in_ok-second.second in
    let no_low = sym c.begins_low.ensures ∙ c.if-begins_low.false in
    let value = c.in_ok-unit.ensures.value in
    let within = high_unit high value.0 c.in_ok-unit.unit (sym c.begins_high.ensures ∙ c.if-not-begins_high.false) value.1 value.2 in
    two_digits_read m o k c.in_ok-first.first c.in_ok-second.second c.args.text.now c.in_ok-first.rest.now c.in_ok-second.after.now c.in_ok-first.ensures c.in_ok-second.ensures no_low
    ∙ c.in_ok-unit.ensures.unit m o k no_low
    ∙ ap (λ s. outcome s c.in_ok-unit.after.now) (unit_high m o k c.in_ok-unit.unit within.0 within.1)
    ∙ c.in_ok-low.ensures.read m o k c.in_ok-unit.unit
    ∙ ap (λ u. outcome (in_string m o (k ++ encode_utf8 u)) c.in_ok-low.after.now) (pair_is c.in_ok-unit.unit c.in_ok-low.low within.0 within.1 c.in_ok-low.ensures.low ∙ sym (c.scalar-2.ensures (pair_scalar c.in_ok-unit.unit c.in_ok-low.low)))
