use Rattle.std.proofs.Common.{◌≢◌, ◌⊎◌, inl, inr, ◌+◌, ◌≤◌, get_or, arith, rules}
use Rattle.json_text.proofs.Integers.{number_of_digits}
use Rattle.json_text.proofs.ShortIntegers.{NoInteger, no_integer}
use Rattle.json_text.proofs.integer.integer_at.Goals.{else-bytes-from-eq48-via-then-bytes-from-eq48+else-digits-from-2, else-bytes-from-eq48-via-else-bytes-from-eq48, then-digits-from-via-then-digits-from, then-digits-from-via-else-digits-from+then-goes_on}
use Rattle.json_text.proofs.integer.integer_at.Goals as goal

pub returns-clause-number : goal.returns-clause-number
returns-clause-number c =
    let b = c.args.bytes.now in
    let from = c.args.from in
    let d = c.few_digits-digits in
    let e = d.result.end in
    let z : (get_or b from 0 ≢ 48) ⊎ (e ≤ from + 1) = elim c.else-bytes-from-eq48.branch [
      | else-bytes-from-eq48-via-then-bytes-from-eq48+else-digits-from-2 w ↦ inr (search rules)
      | else-bytes-from-eq48-via-else-bytes-from-eq48 w ↦ inl (search rules)
    ] in
    let g = c.goes_on.ensures in
    let n = c.if-goes_on.false in
    number_of_digits b from e (omega arith) (omega arith) d.ensures.digits (g.digit n) (g.dot n) (g.exponent n) (g.capital n) z

pub returns-then-digits-from-clause-none : goal.returns-then-digits-from-clause-none
returns-then-digits-from-clause-none c = λ _ e.
    let b = c.args.bytes.now in
    let from = c.args.from in
    let d = c.few_digits-digits in
    let why : NoInteger b from d.result.end = elim c.then-digits-from.branch [
      | then-digits-from-via-then-digits-from w ↦ inl (search rules)
      | then-digits-from-via-else-digits-from+then-goes_on w ↦ inr (inl (w.goes_on.ensures.on (search rules)))
    ] in
    no_integer b from d.result.end d.ensures.within.0 d.ensures.within.1 d.ensures.few d.ensures.digits d.ensures.stop why e

pub returns-then-digits-from-2-clause-none : goal.returns-then-digits-from-2-clause-none
returns-then-digits-from-2-clause-none c = λ _ e.
    let b = c.args.bytes.now in
    let from = c.args.from in
    let d = c.few_digits-digits in
    no_integer b from d.result.end d.ensures.within.0 d.ensures.within.1 d.ensures.few d.ensures.digits d.ensures.stop (inr (inr (c.if-bytes-from-eq48.true, c.if-digits-from-2.true))) e
