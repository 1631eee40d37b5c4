use Rattle.std.proofs.Common.{◌≡◌, ◌≢◌, ◌∙◌, pos, Some, get_or, true, sym, ap, subst, rules, arith}
use Rattle.std.specs.Str.{all_ascii_digits}
use Rattle.std.specs.Str.Parse.{digits_value}
use Rattle.json_number.specs.Integers.{below_zero}
use Rattle.json_number.proofs.LiteralDigits.{minus_row, minus_digits, minus_others, plain_digits, plain_others, number_length, minus_length}
use Rattle.json_number.proofs.integer.integer_of_in.Goals as goal

pub read_digits-requires-clause-order : goal.read_digits-requires-clause-order
read_digits-requires-clause-order c =
    let m : get_or c.args.literal.now 0 0 ≡ 45 = search rules in
    let p = minus_length c.args.literal.now c.requires.number m in
    omega arith

pub read_digits-requires-2-clause-order : goal.read_digits-requires-2-clause-order
read_digits-requires-2-clause-order c =
    let p = number_length c.args.literal.now c.requires.number in
    omega arith

pub returns-in-Value : goal.returns-in-Value
returns-in-Value c =
    let l = c.args.literal.now in let b = c.args.input.now in let i = c.args.from in
    let m : get_or l 0 0 ≡ 45 = search rules in
    let r = minus_row l b i c.requires.bytes c.requires.within m in
    let v = c.read_digits.ensures.value c.in-Value.value c.in-Value.is in
    c.negative.ensures ∙ ap below_zero v.1 ∙ sym (minus_digits l _ r v.0)

pub returns-in-NotDigits : goal.returns-in-NotDigits
returns-in-NotDigits c =
    let l = c.args.literal.now in let b = c.args.input.now in let i = c.args.from in
    let m : get_or l 0 0 ≡ 45 = search rules in
    let r = minus_row l b i c.requires.bytes c.requires.within m in
    sym (minus_others l _ r (c.read_digits.ensures.none c.in-NotDigits.is))

pub returns-in-Value-read_digits : goal.returns-in-Value-read_digits
returns-in-Value-read_digits c =
    let l = c.args.literal.now in let b = c.args.input.now in let i = c.args.from in
    let m : get_or l 0 0 ≢ 45 = search rules in
    let v = c.read_digits-2.ensures.value c.in-Value-read_digits.value c.in-Value-read_digits.is in
    let d = subst (λ y. all_ascii_digits y ≡ true) (sym c.requires.bytes) v.0 in
    let e : c.in-Value-read_digits.value ≡ digits_value 10 l = v.1 ∙ ap (digits_value 10) (sym c.requires.bytes) in
    ap Some (c.unsigned.ensures ∙ ap pos e) ∙ sym (plain_digits l m (number_length l c.requires.number) d (omega arith))

pub returns-in-NotDigits-read_digits : goal.returns-in-NotDigits-read_digits
returns-in-NotDigits-read_digits c =
    let l = c.args.literal.now in let b = c.args.input.now in let i = c.args.from in
    let m : get_or l 0 0 ≢ 45 = search rules in
    let d = c.read_digits-2.ensures.none c.in-NotDigits-read_digits.is in
    sym (plain_others l m (number_length l c.requires.number) (ap all_ascii_digits c.requires.bytes ∙ d))
