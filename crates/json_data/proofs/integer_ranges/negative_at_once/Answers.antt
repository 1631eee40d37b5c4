use Rattle.std.proofs.Common.{◌≡◌, ◌∙◌, ℤ, pos, neg_ℤ, ap, sym, subst, true, arith, SFits, to_z-of_z, rules}
use Rattle.std.specs.Int.{w128}
use Rattle.json_grammar.specs.Tree.{num}
use Rattle.json_model.specs.Datum.{integer_datum}
use Rattle.json_number.specs.Integers.{whole_in}
use Rattle.json_number.proofs.Widths.{whole_by_value}
use Rattle.json_data.specs.Reading.{gives, is_between}
use Rattle.json_data.proofs.Digits.{fits_in, negative_enough}
use Rattle.json_data.proofs.integer_ranges.negative_at_once.Goals as goal

pub returns-in-Some-clause-within : goal.returns-in-Some-clause-within
returns-in-Some-clause-within g c = λ low high h.
    let least = c.in-Some.ensures.least in
    let f : SFits w128 c.negated.result = search rules in
    subst (λ (z : ℤ). is_between low high z ≡ true) (sym c.negated.ensures ∙ sym (to_z-of_z f)) (negative_enough c.in-Some.n low high least.0 (omega arith))

pub returns-in-Some-clause-takes : goal.returns-in-Some-clause-takes
returns-in-Some-clause-takes g c = λ low high h.
    let t = c.in-Some.ensures.takes in
    let n = c.in-Some.n in
    let least = c.in-Some.ensures.least in
    let f : SFits w128 c.negated.result = search rules in
    record {
      tree = num t.literal;
      takes = t.takes;
      answer = fits_in low high (whole_in t.literal) (neg_ℤ (pos n)) (whole_by_value t.literal (neg_ℤ (pos n)) t.value) (negative_enough n low high least.0 (omega arith))
          ∙ ap (λ (z : ℤ). gives (integer_datum z)) (sym c.negated.ensures ∙ sym (to_z-of_z f));
      some = λ e. cc;
    }
