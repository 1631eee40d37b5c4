use Rattle.std.proofs.Common.{refl}
use Rattle.json_write.proofs.Testing.{as_value}
use Rattle.json_write.proofs.key_test.KeyTestEvents.text.Goals as goal

pub returns : goal.returns
returns c = as_value _ refl c.finish_value.ensures
