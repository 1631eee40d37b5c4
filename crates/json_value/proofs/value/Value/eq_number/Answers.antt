use Rattle.std.proofs.Common.{Some, sym, ap, ◌∙◌}
use Rattle.std.specs.Option.{option_eq}
use Rattle.std.specs.Ordering.{int_eq}
use Rattle.json_number.specs.Numbers.{value_of}
use Rattle.json_doc.specs.Readings.{integer_in_tree}
use Rattle.json_value.specs.Denotes.{tree_of}
use Rattle.json_value.proofs.SameNumbers.{option_on, integer_same}
use Rattle.json_value.proofs.ProperValues.{value_proper}
use Rattle.json_value.proofs.value.Value.eq_number.Goals as goal

pub returns : goal.returns
returns c =
    c.eq.ensures
    ∙ option_on value_of int_eq c.as_number.result (Some c.args.number)
    ∙ ap (λ o. option_eq int_eq o (Some (value_of c.args.number))) (c.as_number.ensures.value ∙ ap integer_in_tree c.view.ensures.tree)
    ∙ sym (integer_same (tree_of c.args.self.now) c.args.number (value_proper c.args.self.now))
