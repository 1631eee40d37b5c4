use Rattle.std.proofs.Common.{refl}
use Rattle.std.specs.Fmt.{digits}
use Rattle.json_query.proofs.examples.child_segments.Goals as goal

pub returns : goal.returns
unfolding digits
returns c = (refl, refl, refl)
