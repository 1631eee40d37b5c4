use Rattle.std.proofs.Common.{◌≡◌, ◌-◌, ◌<◌, length, true, get_or, arith, rules}
use Rattle.std.proofs.lemmas.Grind.{common_steps}
use Rattle.std.specs.Char.{is_ascii_digit}
use Rattle.json_text.proofs.Integers.{room_for_digit, digits_more, value_more, few_more, few_of}
use Rattle.json_text.proofs.integer.more_digits.Goals as goal

pub overflow_mul-value : goal.overflow_mul-value
overflow_mul-value c =
    let i = c.digits.invariant in
    let r = room_for_digit (c.digits.at - c.args.from) c.digits.value (omega arith) i.few in
    omega arith

pub overflow_add-value : goal.overflow_add-value
overflow_add-value c =
    let i = c.digits.invariant in
    let r = room_for_digit (c.digits.at - c.args.from) c.digits.value (omega arith) i.few in
    grind (arith, common_steps)

pub digits-preserved : goal.digits-preserved
digits-preserved c =
    let i = c.digits.invariant in
    let b = c.args.bytes.now in
    let from = c.args.from in
    let at = c.digits.at in
    let k : is_ascii_digit (get_or b at 0) ≡ true = search rules in
    let l : at < length b = omega arith in
    let v = value_more b from at c.digits.value i.order l k i.value in
    let f = few_more from at c.digits.value (get_or b at 0) i.order i.few k in
    record {
      order = omega arith;
      within = omega arith;
      digits = digits_more b from at i.order l i.digits k;
      value = grind (arith, common_steps);
      few = grind (arith, common_steps);
    }

pub digits-init : goal.digits-init
digits-init c = record {
  order = c.requires.order;
  within = grind arith;
  digits = c.requires.digits;
  value = c.requires.value;
  few = few_of c.args.bytes.now c.args.from c.args.read.end c.args.read.value c.requires.order c.requires.within c.requires.digits c.requires.value;
}
