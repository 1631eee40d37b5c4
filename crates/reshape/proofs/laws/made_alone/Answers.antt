use Rattle.reshape.proofs.Alone.{one_number, apart}
use Rattle.reshape.proofs.laws.made_alone.Goals as goal

pub returns : goal.returns
returns c = λ words n h. ((λ m k. one_number words n m h k), λ r. apart words n r.0 h r.1)
