use Rattle.std.proofs.Common.{rules, ◌≡◌, get_or, arith}
use Rattle.json_text.proofs.Outcomes.{when_some}
use Rattle.json_text.proofs.Scans.{fraction_some}
use Rattle.json_text.proofs.number.near_fraction_end.Goals as goal

pub returns-then-bytes-from-eq46-clause-fraction : goal.returns-then-bytes-from-eq46-clause-fraction
returns-then-bytes-from-eq46-clause-fraction c = λ i h.
    let b = c.args.bytes.now in
    let dot : get_or b c.args.from 0 ≡ 46 = search rules in
    when_some c.near_digits.result c.near_digits.ensures.digits (λ e d. fraction_some b i c.args.from e h (omega arith, dot) d)
