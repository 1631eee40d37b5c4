use Rattle.std.proofs.Common.{◌≡◌, ◌∙◌, ℤ, ap, sym, subst, true, SFits, to_z-of_z, rules}
use Rattle.std.specs.Int.{w128}
use Rattle.json_model.specs.Datum.{integer_datum}
use Rattle.json_data.specs.Reading.{gives, is_between}
use Rattle.json_data.proofs.integer_ranges.negative_or_by_kind.Goals as goal

pub returns-in-Some-clause-ok : goal.returns-in-Some-clause-ok
returns-in-Some-clause-ok g c =
    let r = c.in-Some.ensures.takes c.args.low c.args.high c.least_of.ensures.0 in
    let f : SFits w128 c.in-Some.n = search rules in
    record { tree = r.tree; takes = r.takes; answer = r.answer ∙ ap (λ (n : ℤ). gives (integer_datum n)) (sym (to_z-of_z f)) }

pub returns-in-Some-clause-within : goal.returns-in-Some-clause-within
returns-in-Some-clause-within g c =
    let f : SFits w128 c.in-Some.n = search rules in
    subst (λ (n : ℤ). is_between c.args.low c.args.high n ≡ true) (sym (to_z-of_z f)) (c.in-Some.ensures.within c.args.low c.args.high c.least_of.ensures.0)
