use Rattle.std.proofs.Common.{◌≡◌, ◌∙◌, ap, string_bytes}
use Rattle.json_number.specs.Tests.{is_number_text}
use Rattle.json_number.proofs.Literals.{test_from_number}
use Rattle.json_number.proofs.raw_number.RawNumber.from_literal.Goals as goal

pub invariant_of-result : goal.invariant_of-result
invariant_of-result c =
    let e : string_bytes c.in_ok-from_str.field-0 ≡ c.args.literal.now = c.in_ok-from_str.ensures.ok in
    record { is_literal = ap is_number_text e ∙ test_from_number c.args.literal.now c.requires }
