use Rattle.std.proofs.Common.{rules, ◌≡◌, get_or}
use Rattle.json_text.proofs.Scans.{exponent_none}
use Rattle.json_text.proofs.number.near_number_end.Goals as goal

pub returns : goal.returns
returns c =
    let b = c.args.bytes.now in let e = c.in-Some-near_fraction_end.end in
    let m = c.minus_end-unsigned.ensures.state in
    let w = c.in-Some.ensures.integer c.args.from m.0 m.1 m.2 in
    let f = c.in-Some-near_fraction_end.ensures.fraction c.args.from w in
    let small : ¬ (get_or b e 0 ≡ 101) = search rules in
    let capital : ¬ (get_or b e 0 ≡ 69) = search rules in
    exponent_none b c.args.from e f (λ k. small k.1) (λ k. capital k.1)
