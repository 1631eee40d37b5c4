use Rattle.std.proofs.Common.{refl}
use Rattle.json_model.specs.Print.{shown_byte}
use Rattle.json_rpc.proofs.examples.no_operations.Goals as goal

pub returns : goal.returns
unfolding shown_byte
returns c = (refl, refl)
