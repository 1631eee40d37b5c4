use Rattle.std.proofs.Common.{rules, ◌+◌, ◌≡◌, get_or, arith, subst}
use Rattle.json_text.specs.Numbers.{NoDigit}
use Rattle.json_text.proofs.Scans.{integer_digits, integer_alone}
use Rattle.json_text.proofs.number.near_integer_end.Goals as goal

pub returns-then-end-from-clause-integer : goal.returns-then-end-from-clause-integer
returns-then-end-from-clause-integer c = λ i s h n.
    let b = c.args.bytes.now in
    let zero : get_or b c.args.from 0 ≡ 48 = search rules in
    let is : c.in-Some.end ≡ c.args.from + 1 = omega arith in
    integer_alone b i c.args.from s h n (omega arith, zero) (subst (NoDigit b) is c.in-Some.ensures.digits.stop)

pub returns-else-bytes-from-eq48-clause-integer : goal.returns-else-bytes-from-eq48-clause-integer
returns-else-bytes-from-eq48-clause-integer c = λ i s h n.
    let b = c.args.bytes.now in
    let other : ¬ (get_or b c.args.from 0 ≡ 48) = search rules in
    integer_digits b i c.args.from c.in-Some.end s h n c.in-Some.ensures.digits (λ k. other k.1)
