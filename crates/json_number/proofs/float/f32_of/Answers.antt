use Rattle.std.proofs.Common.{◌∙◌}
use Rattle.std.specs.Float.{binary32}
use Rattle.json_number.proofs.Floats.{nearest_is}
use Rattle.json_number.proofs.float.f32_of.Goals as goal

pub returns-clause-nearest : goal.returns-clause-nearest
returns-clause-nearest c = λ n. c.finite_f32.ensures ∙ nearest_is binary32 _ n
