use Rattle.std.proofs.Common.{refl}
use Rattle.json_model.proofs.data_examples.merged_at_each_object.Goals as goal

pub returns : goal.returns
returns c = refl
