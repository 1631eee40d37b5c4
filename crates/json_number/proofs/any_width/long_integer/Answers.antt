use Rattle.std.proofs.Common.{◌≡◌, ◌∙◌, true, false, inl, sym}
use Rattle.std.specs.Str.{all_ascii_digits}
use Rattle.std.specs.Str.Parse.{digits_value}
use Rattle.json_number.proofs.ShortDigits.{all_by_each}
use Rattle.json_number.proofs.Widths.{parsed_is, parsed_large}
use Rattle.json_number.proofs.any_width.long_integer.Goals as goal

pub returns-then-not-is_digits : goal.returns-then-not-is_digits
returns-then-not-is_digits c =
    let a : all_ascii_digits c.args.digits.now ≡ false = sym (all_by_each c.args.digits.now) ∙ sym c.is_digits.ensures ∙ c.if-not-is_digits.true in
    rw a

pub returns-in-Ok : goal.returns-in-Ok
returns-in-Ok c =
    let d = c.args.digits.now in
    let a : all_ascii_digits d ≡ true = sym (all_by_each d) ∙ sym c.is_digits.ensures ∙ c.if-not-is_digits.false in
    rw (a, parsed_is d c.parse.result c.in-Ok.n c.parse.ensures.value.0 a c.in-Ok.is)

pub returns-in-Err : goal.returns-in-Err
returns-in-Err c =
    let d = c.args.digits.now in
    let a : all_ascii_digits d ≡ true = sym (all_by_each d) ∙ sym c.is_digits.ensures ∙ c.if-not-is_digits.false in
    (digits_value 10 d, parsed_large d c.parse.result c.in-Err.field-0 c.parse.ensures.value.0 a c.requires c.in-Err.is, inl (rw a))
