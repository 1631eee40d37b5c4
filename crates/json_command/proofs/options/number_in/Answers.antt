use Rattle.std.proofs.Common.{◌≡◌, true, option_and_then, rules, sym, ap, ◌∙◌, arith}
use Rattle.json_number.proofs.Integers.{unsigned_of}
use Rattle.json_command.specs.Options.{has_no_leading_zero, up_to}
use Rattle.json_command.proofs.Numerals.{number_read, few_read, many_read}
use Rattle.json_command.proofs.options.number_in.Goals as goal

pub returns-in-Ok : goal.returns-in-Ok
returns-in-Ok c =
    let p : has_no_leading_zero c.args.digits.now ≡ true = search rules in
    sym (number_read c.args.max c.args.digits.now c.parse.result p c.parse.ensures.value.0 ∙ ap (λ r. option_and_then (up_to c.args.max) (unsigned_of r)) c.in-Ok.is ∙ few_read c.args.max c.in-Ok.number (omega arith))

pub returns-in_default : goal.returns-in_default
returns-in_default c =
    let p : has_no_leading_zero c.args.digits.now ≡ true = search rules in
    sym (number_read c.args.max c.args.digits.now c.parse.result p c.parse.ensures.value.0 ∙ ap (λ r. option_and_then (up_to c.args.max) (unsigned_of r)) c.in-Ok.is ∙ many_read c.args.max c.in-Ok.number (omega arith))

pub returns-in_default-2 : goal.returns-in_default-2
returns-in_default-2 c =
    let p : has_no_leading_zero c.args.digits.now ≡ true = search rules in
    sym (number_read c.args.max c.args.digits.now c.parse.result p c.parse.ensures.value.0 ∙ ap (λ r. option_and_then (up_to c.args.max) (unsigned_of r)) c.in_default.is)
