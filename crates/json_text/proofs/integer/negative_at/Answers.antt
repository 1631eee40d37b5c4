use Rattle.std.proofs.Common.{refl}
use Rattle.std.proofs.lemmas.Bool.{both_ways}
use Rattle.json_text.proofs.ShortNegatives.{with_minus, without_minus}
use Rattle.json_text.proofs.integer.negative_at.Goals as goal

pub returns-then-not-byte_is-clause-none : goal.returns-then-not-byte_is-clause-none
returns-then-not-byte_is-clause-none c _ e n = both_ways _ c.if-not-byte_is.true (c.byte_is.ensures.1 n.minus)

pub returns-in-Some-clause-negative : goal.returns-in-Some-clause-negative
returns-in-Some-clause-negative c =
    let i = c.in-Some.ensures in
    with_minus c.args.bytes.now c.args.from c.in-Some.digits.end (c.byte_is.ensures.0 c.if-not-byte_is.false) i.some.0 (record { number = i.number; digits = i.digits; few = i.some.1 })

pub returns-in-None-clause-none : goal.returns-in-None-clause-none
returns-in-None-clause-none c _ e n = c.in-None.ensures.none refl e (without_minus c.args.bytes.now c.args.from e n)
