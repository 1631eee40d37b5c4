use Rattle.std.proofs.Common.{◌&&◌, sym, ap, ap₂, ◌∙◌, bytes_eq}
use Rattle.std.specs.Option.{option_eq}
use Rattle.std.specs.Ordering.{int_eq}
use Rattle.json_number.specs.Numbers.{value_of}
use Rattle.json_doc.specs.Readings.{literal_of}
use Rattle.json_value.specs.Seen.{seen}
use Rattle.json_value.proofs.SameNumbers.{seen_proper, option_on, numbers_same}
use Rattle.json_value.proofs.equality.are_numbers_same.Goals as goal

pub returns-then-eq : goal.returns-then-eq
returns-then-eq c =
    let t = seen c.args.first in let u = seen c.args.second in
    let integers = sym (ap₂ (option_eq int_eq) c.as_number.ensures.value c.as_number-2.ensures.value) ∙ sym (option_on value_of int_eq c.as_number.result c.as_number-2.result) ∙ sym c.eq.ensures ∙ c.if-eq.true in
    c.eq-then-eq.ensures
    ∙ option_on (λ s. s.now) bytes_eq c.literal.result c.literal-then-eq.result
    ∙ ap₂ (option_eq bytes_eq) c.literal.ensures c.literal-then-eq.ensures
    ∙ sym (ap (λ b. b && option_eq bytes_eq (literal_of t) (literal_of u)) integers)
    ∙ sym (numbers_same t u c.requires (seen_proper c.args.first) (seen_proper c.args.second))
