use Rattle.std.proofs.Common.{ap, ◌∙◌}
use Rattle.std.specs.Float.{binary32}
use Rattle.json_number.specs.Floats.{float_in}
use Rattle.json_number.proofs.Floats.{nearest_is}
use Rattle.json_number.proofs.raw_number.RawNumber.as_f32.Goals as goal

pub returns-clause-nearest : goal.returns-clause-nearest
returns-clause-nearest c = λ n. c.f32_of.ensures.single ∙ ap (float_in binary32) c.as_str.ensures.text ∙ nearest_is binary32 _ n
