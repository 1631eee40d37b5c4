use Rattle.std.proofs.Common.{◌≡◌, ◌+◌, ◌-◌, ◌≤◌, sym, subst, arith}
use Rattle.json_text.proofs.LongDigits.{part_digits, value_of_two, word_small, small_power, two_words_fit}
use Rattle.json_text.proofs.integer.two_words_value.Goals as goal

pub word_value-high-requires-clause-digits : goal.word_value-high-requires-clause-digits
word_value-high-requires-clause-digits c = part_digits c.args.bytes.now c.args.from (c.args.from + c.args.count) c.args.from 8 (omega arith) (omega arith) (omega arith) c.requires.digits

pub word_value-low-requires-clause-digits : goal.word_value-low-requires-clause-digits
word_value-low-requires-clause-digits c = part_digits c.args.bytes.now c.args.from (c.args.from + c.args.count) (c.args.from + 8) (c.args.count - 8) (omega arith) (omega arith) (omega arith) c.requires.digits

pub overflow_mul-shifted : goal.overflow_mul-shifted
overflow_mul-shifted c =
    let b = c.args.bytes.now in let i = c.args.from in let n = c.args.count - 8 in
    let d = part_digits b i (i + c.args.count) i 8 (omega arith) (omega arith) (omega arith) c.requires.digits in
    let h = word_small b i 8 c.word_value-high.result (omega arith) (omega arith) d c.word_value-high.ensures in
    let p : c.power_of_ten.result ≤ 100000000 = subst (λ k. k ≤ 100000000) (sym c.power_of_ten.ensures) (small_power n (omega arith)) in
    let f = two_words_fit c.word_value-high.result 0 c.power_of_ten.result h (omega arith) p in
    omega arith

pub overflow_add-result : goal.overflow_add-result
overflow_add-result c =
    let b = c.args.bytes.now in let i = c.args.from in let n = c.args.count - 8 in
    let d = part_digits b i (i + c.args.count) i 8 (omega arith) (omega arith) (omega arith) c.requires.digits in
    let e = part_digits b i (i + c.args.count) (i + 8) n (omega arith) (omega arith) (omega arith) c.requires.digits in
    let h = word_small b i 8 c.word_value-high.result (omega arith) (omega arith) d c.word_value-high.ensures in
    let w = word_small b (i + 8) n c.word_value-low.result (omega arith) (omega arith) e c.word_value-low.ensures in
    let p : c.power_of_ten.result ≤ 100000000 = subst (λ k. k ≤ 100000000) (sym c.power_of_ten.ensures) (small_power n (omega arith)) in
    let f = two_words_fit c.word_value-high.result c.word_value-low.result c.power_of_ten.result h w p in
    omega arith

pub returns : goal.returns
returns c =
    let b = c.args.bytes.now in let i = c.args.from in let n = c.args.count - 8 in
    let v = value_of_two b i (i + 8) n (omega arith) (omega arith) in
    let e : i + 8 + n ≡ i + c.args.count = omega arith in
    cc (c.word_value-high.ensures, c.word_value-low.ensures, c.power_of_ten.ensures)
