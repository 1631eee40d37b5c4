use Rattle.std.proofs.Common.{refl}
use Rattle.json_model.proofs.data_examples.key_without_text.Goals as goal

pub returns : goal.returns
returns c = (refl, refl)
