use Rattle.std.proofs.Common.{◌≡◌, ◌∷◌, ◌∙◌, ap, to_z-of_z}
use Rattle.std.specs.Fmt.{decimal, signed_decimal}
use Rattle.itoa.proofs.Decimal.{minus_first}
use Rattle.json_buffer.proofs.text_writer.TextWriter.signed.Goals as goal

pub returns : goal.returns
returns c =
    let back = to_z-of_z c.ranges.number in
    let size : 45 ∷ decimal c.unsigned_abs-size.result ≡ signed_decimal c.args.number = ap (λ n. 45 ∷ decimal n) c.unsigned_abs-size.ensures.value ∙ rw back (minus_first c.args.number (rw back at c.if-number-ge0.false)) in
    rw (← size) c.negative.ensures
