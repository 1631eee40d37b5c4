use Rattle.std.proofs.Common.{◌∙◌}
use Rattle.std.specs.Float.{binary64}
use Rattle.json_number.proofs.Floats.{nearest_is}
use Rattle.json_number.proofs.float.f64_of.Goals as goal

pub returns-clause-nearest : goal.returns-clause-nearest
returns-clause-nearest c = λ n. c.finite_f64.ensures ∙ nearest_is binary64 _ n
