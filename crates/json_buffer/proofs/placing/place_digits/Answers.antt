use Rattle.std.proofs.Common.{◌≡◌, ◌+◌, ◌∙◌, sym, ap, take, drop, arith}
use Rattle.std.specs.Fmt.{decimal}
use Rattle.json_buffer.proofs.Placed.{digits_placed}
use Rattle.json_buffer.proofs.placing.place_digits.Goals as goal

pub write_digits-requires : goal.write_digits-requires
write_digits-requires c = (omega (arith, c.digit_count.ensures.count), omega (arith, c.requires, c.digit_count.ensures.few))

pub returns-clause-placed : goal.returns-clause-placed
returns-clause-placed c =
    let w = c.write_digits in
    let there : w.result ≡ c.args.at = omega (arith, w.ensures.start, c.digit_count.ensures.count) in
    ap (λ n. take (c.args.at + n) w.new.buf) c.digit_count.ensures.count
    ∙ digits_placed c.args.buffer.now w.new.buf (decimal c.args.number) _ c.args.at (ap (λ n. take n w.new.buf) (sym there) ∙ w.ensures.before ∙ ap (λ n. take n c.args.buffer.now) there) (ap (λ n. drop n w.new.buf) (sym there) ∙ w.ensures.written)
