use Rattle.std.proofs.Common.{◌≡◌, suc, ◌+◌, ◌-◌, ◌*◌, ◌^◌, true, get_or, take, ap, ◌∙◌, arith, rules}
use Rattle.std.proofs.Math.Nat.{pow-suc}
use Rattle.std.proofs.lemmas.Grind.{common_steps}
use Rattle.std.specs.Char.{is_ascii_digit}
use Rattle.std.specs.Str.Parse.{digits_value}
use Rattle.json_number.proofs.ShortDigits.{room_for_digit, one_digit_more, digits_step}
use Rattle.json_number.proofs.any_width.short_value.Goals as goal

pub overflow_mul-value : goal.overflow_mul-value
overflow_mul-value c =
    let i = c.digits.invariant in
    let r = room_for_digit c.digits.at c.digits.value (omega arith) i.few in
    omega arith

pub overflow_add-value : goal.overflow_add-value
overflow_add-value c =
    let i = c.digits.invariant in
    let r = room_for_digit c.digits.at c.digits.value (omega arith) i.few in
    grind (arith, common_steps)

pub digits-preserved : goal.digits-preserved
digits-preserved c =
    let i = c.digits.invariant in
    let d = c.args.digits.now in
    let k : is_ascii_digit (get_or d c.digits.at 0) ≡ true = search rules in
    let v : c.digits.value * 10 + (get_or d c.digits.at 0 - 48) ≡ digits_value 10 (take (c.digits.at + 1) d) = one_digit_more d c.digits.at c.digits.value c.digits-test.true k i.worth in
    let s : c.digits.at + 1 ≡ suc c.digits.at = omega arith in
    let p : 10 ^ (c.digits.at + 1) ≡ 10 ^ c.digits.at * 10 = ap (λ k. 10 ^ k) s ∙ pow-suc 10 c.digits.at in
    record {
      inside = omega arith;
      rest = digits_step d c.digits.at c.digits-test.true k i.rest;
      worth = grind (arith, common_steps);
      few = grind (arith, common_steps);
    }
