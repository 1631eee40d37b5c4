use Rattle.std.proofs.Common.{◌≡◌, suc, length, arith, rules, ap, ◌∙◌}
use Rattle.json_query.specs.declared.error.QueryCode.TheVariants as code
use Rattle.json_query.proofs.TextChars.{digit_read, digit_refused, refused_as}
use Rattle.json_query.proofs.integers.read_digits.Goals as goal

pub returns-then-value-gt-MAX_INTEGER-clause-read : goal.returns-then-value-gt-MAX_INTEGER-clause-read
returns-then-value-gt-MAX_INTEGER-clause-read c = λ r o n.
    c.digits.invariant.read r o n
    ∙ digit_refused r o n c.digits.value c.in-Some.digit c.digits.rest.now c.in-Some.after.now c.in-Some.ensures.1 c.in-Some.ensures.0 (omega arith)
    ∙ refused_as c.before-then-value-gt-MAX_INTEGER.result code.IntegerOutOfRange (length c.digits.rest.now) c.before-then-value-gt-MAX_INTEGER.ensures.code c.before-then-value-gt-MAX_INTEGER.ensures.left

pub digits-preserved : goal.digits-preserved
digits-preserved c =
    let size : length c.digits.rest.now ≡ suc (length c.in-Some.after.now) = ap length c.in-Some.ensures.1 in
    record {
      text = search rules;
      exact = omega arith;
      read = λ r o n. c.digits.invariant.read r o n ∙ digit_read r o n c.digits.value c.in-Some.digit c.digits.rest.now c.in-Some.after.now c.in-Some.ensures.1 c.in-Some.ensures.0 (omega arith);
      within = omega arith;
    }
