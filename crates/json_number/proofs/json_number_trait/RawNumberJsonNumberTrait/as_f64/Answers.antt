use Rattle.std.proofs.Common.{ap, ◌∙◌}
use Rattle.std.specs.Float.{binary64}
use Rattle.json_number.specs.Floats.{float_in}
use Rattle.json_number.proofs.Floats.{nearest_is}
use Rattle.json_number.proofs.json_number_trait.RawNumberJsonNumberTrait.as_f64.Goals as goal

pub returns-clause-nearest : goal.returns-clause-nearest
returns-clause-nearest c = λ n. c.f64_of.ensures.double ∙ ap (float_in binary64) c.as_str.ensures.text ∙ nearest_is binary64 _ n
