use Rattle.std.proofs.Common.{pos, arith}
use Rattle.json_grammar.specs.Tree.{num}
use Rattle.json_number.specs.Integers.{whole_in}
use Rattle.json_number.proofs.Widths.{whole_by_value}
use Rattle.json_data.proofs.Digits.{fits_in, low_enough}
use Rattle.json_data.proofs.integer_ranges.integer_at_once.Goals as goal

pub returns-in-Some-clause-takes : goal.returns-in-Some-clause-takes
returns-in-Some-clause-takes g c = λ low high h.
    let t = c.in-Some.ensures.takes in
    let n = c.in-Some.n in
    let m = c.in-Some.ensures.most in
    record {
      tree = num t.literal;
      takes = t.takes;
      answer = fits_in low high (whole_in t.literal) (pos n) (whole_by_value t.literal (pos n) t.value) (low_enough n high (omega arith));
      some = λ e. cc;
    }
