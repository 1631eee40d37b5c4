use Rattle.std.proofs.Common.{ap}
use Rattle.reshape.proofs.Wording.{one_asked}
use Rattle.reshape.proofs.laws.one_command.Goals as goal

pub returns : goal.returns
returns c = λ words a b h k. (ap (λ x. x.es) (one_asked words a b h k), ap (λ x. x.layout) (one_asked words a b h k), ap (λ x. x.rules) (one_asked words a b h k))
